use Rattle.std.proofs.Common.{◌≡◌, ℕ, ◌+◌, drop, get_or, swap, sym, ap, ◌∙◌, arith}
use Rattle.m4_mzd.specs.Window.{Window, content}
use Rattle.m4_perm.proofs.RowsLemmas.{rows_after, after_step, after_done, rows_in_order}
use Rattle.m4_perm.proofs.exchanges.swap_rows_by.Goals as goal

-- the window with two rows exchanged, however their numbers are worked out
swapped_at : (x : Window) (m n i k : ℕ) {w : Window} → w ≡ record x { bits = swap x.bits m n } → m ≡ i → n ≡ k → w ≡ record x { bits = swap x.bits i k }
swapped_at x m n i k is one other = is ∙ (λ t. record x { bits = swap x.bits (one t) (other t) })

pub loop-i-preserved : goal.loop-i-preserved
loop-i-preserved c =
    let i = c.loop-i.i in
    let list = c.args.exchanges.now in
    let swapped = swapped_at c.loop-i.a _ _ i (get_or list i 0) c.swap_rows.ensures (omega arith) (omega arith) in
    record {
      others = swapped ∙ ap (λ (w : Window). record w { bits = swap c.loop-i.a.bits i (get_or list i 0) }) c.loop-i.invariant.others
          ∙ ap {B = Window} (λ rows. record c.args.a.now { bits = rows }) (sym (ap (λ (w : Window). w.bits) swapped));
      same = ap (rows_after (i + 1) (drop (i + 1) list)) (ap (λ (w : Window). w.bits) swapped)
          ∙ sym (after_step i list c.loop-i.a.bits (omega arith)) ∙ c.loop-i.invariant.same;
    }

pub returns : goal.returns
returns c =
    let list = c.args.exchanges.now in
    c.loop-i.invariant.others
    ∙ ap {B = Window} (λ rows. record c.args.a.now { bits = rows })
    (sym (after_done c.loop-i.i list c.loop-i.a.bits (omega arith)) ∙ c.loop-i.invariant.same
    ∙ rows_in_order (content c.args.a.now) list c.rows-rows.ensures.shape.matrix c.requires)
