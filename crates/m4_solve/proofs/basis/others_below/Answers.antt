use Rattle.std.proofs.Common.{◌+◌, ℕ, List, ◌∙◌, sym, subst, ap, arith}
use Rattle.m4_solve.proofs.KernelRows.{ArePartedTo, parted_pivot, parted_other}
use Rattle.m4_solve.proofs.basis.others_below.Goals.{then-next-rising+then-rising-next, else-next-rising+in_ok-push, else-next-rising-via-then-next-rising+else-rising-next, else-next-rising-via-else-next-rising}
use Rattle.m4_solve.proofs.basis.others_below.Goals as goal

pub loop-j-preserved : goal.loop-j-preserved
loop-j-preserved c =
    let q = c.args.rising.now in
    let j = c.loop-j.j in
    elim c.if-next-rising.branch [
      | then-next-rising+then-rising-next w ↦
          subst (λ (next : ℕ). ArePartedTo q c.if-next-rising.others.items next (j + 1)) (sym w.next-is)
          (subst (λ (g : List ℕ). ArePartedTo q g (c.loop-j.next + 1) (j + 1)) (sym (ap (λ v. v.items) w.others-is))
          (parted_pivot q c.loop-j.others.items c.loop-j.next j c.requires w.if-next-rising.true w.if-rising-next.true c.loop-j.invariant))
      | else-next-rising+in_ok-push w ↦
          subst (λ (next : ℕ). ArePartedTo q c.if-next-rising.others.items next (j + 1)) (sym w.next-is)
          (subst (λ (g : List ℕ). ArePartedTo q g c.loop-j.next (j + 1)) (sym (ap (λ v. v.items) w.others-is ∙ w.in_ok-push.ensures.items))
          (parted_other q c.loop-j.others.items c.loop-j.next j c.requires
          (λ inside here. elim w.else-next-rising.branch [
            | else-next-rising-via-then-next-rising+else-rising-next v ↦ absurd (v.if-rising-next.false here)
            | else-next-rising-via-else-next-rising v ↦ (let past = v.if-next-rising.false in absurd (omega (arith, past, inside)))
          ])
          c.loop-j.invariant))
    ]
