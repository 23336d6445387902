use Rattle.std.proofs.Common.{◌≡◌, ℕ, ◌*◌, ◌<◌, List, length, get_or, take, drop, ◌++◌, refl, sym, ◌∙◌, ap, subst, arith}
use Rattle.std.proofs.Math.Seq.{take-append_seam}
use Rattle.std.proofs.lemmas.Bool.{true≢false}
use Rattle.m4_erasure.specs.Shards.{stripes}
use Rattle.m4_erasure.specs.Restored.{IsSourceOf}
use Rattle.m4_erasure.specs.Whole.{IsWhole, IsPadded}
use Rattle.m4_erasure.proofs.Sources.{is_source, padded_by_source, length_is}
use Rattle.m4_erasure.proofs.source.restore_by.Goals as goal

-- what is written over all of a list
written : (old new : List ℕ) (n : ℕ) → n ≡ length new → take n (new ++ drop (length new) old) ≡ new
written old new n long = ap (λ (m : ℕ). take m (new ++ drop (length new) old)) long ∙ take-append_seam new (drop (length new) old)

pub returns-then-not-is_padded : goal.returns-then-not-is_padded
returns-then-not-is_padded c = λ src source.
    let shards = c.args.shards.now in
    let are = c.requires.shards in
    let k = length shards in
    let d = c.index-shards-0.result in
    let len_is : (get_or shards 0 d).len ≡ are.len = length_is shards are d (omega (arith, are.count.0)) in
    let n_is : length c.as_mut_slice.result.now ≡ stripes k are.len * k =
    c.as_mut_slice.ensures.len ∙ c.in_ok-whole.ensures.len ∙ ap (λ (n : ℕ). stripes k n * k) len_is in
    let is : IsWhole c.args.inverse.now k shards (stripes k are.len * k) c.add_shards.new.whole
    = subst (λ (n : ℕ). IsWhole c.args.inverse.now k shards n c.add_shards.new.whole) n_is c.add_shards.ensures.whole in
    let padded : IsPadded are.len c.add_shards.new.whole
    = padded_by_source shards are c.args.inverse.now c.requires.inverse c.add_shards.new.whole is d (omega (arith, are.count.0)) is.long src source in
    let long : c.in_ok-whole.whole.len ≡ length c.add_shards.new.whole = c.in_ok-whole.ensures.len ∙ ap (λ (n : ℕ). stripes k n * k) len_is ∙ sym is.long in
    let same : c.as_slice.result.now ≡ c.add_shards.new.whole = c.as_slice.ensures.value ∙ written c.in_ok-whole.whole.items c.add_shards.new.whole c.in_ok-whole.whole.len long in
    true≢false (sym (c.if-not-is_padded.ensures.padded.1 (subst (λ (n : ℕ). IsPadded n c.as_slice.result.now) (sym len_is) (subst (IsPadded are.len) (sym same) padded))))

pub returns : goal.returns
returns c =
    let shards = c.args.shards.now in
    let are = c.requires.shards in
    let k = length shards in
    let d = c.index-shards-0.result in
    let len_is : (get_or shards 0 d).len ≡ are.len = length_is shards are d (omega (arith, are.count.0)) in
    let n_is : length c.as_mut_slice.result.now ≡ stripes k are.len * k =
    c.as_mut_slice.ensures.len ∙ c.in_ok-whole.ensures.len ∙ ap (λ (n : ℕ). stripes k n * k) len_is in
    let whole = c.add_shards.new.whole in
    let is : IsWhole c.args.inverse.now k shards (stripes k are.len * k) whole
    = subst (λ (n : ℕ). IsWhole c.args.inverse.now k shards n whole) n_is c.add_shards.ensures.whole in
    let long : c.in_ok-whole.whole.len ≡ length whole = c.in_ok-whole.ensures.len ∙ ap (λ (n : ℕ). stripes k n * k) len_is ∙ sym is.long in
    let same : c.as_slice.result.now ≡ whole = c.as_slice.ensures.value ∙ written c.in_ok-whole.whole.items whole c.in_ok-whole.whole.len long in
    let padded : IsPadded are.len whole
    = subst (λ (n : ℕ). IsPadded n whole) len_is (subst (IsPadded (get_or shards 0 d).len) same (c.if-not-is_padded.ensures.padded.0 refl)) in
    let cut : c.truncate.new.self.items ≡ take are.len whole = c.truncate.ensures.items ∙ ap (take (get_or shards 0 d).len) (written c.in_ok-whole.whole.items whole c.in_ok-whole.whole.len long) ∙ ap (λ (n : ℕ). take n whole) len_is in
    subst (IsSourceOf shards) (sym cut)
    (is_source shards are c.args.inverse.now c.requires.inverse whole is d (grind arith) (λ p. subst (λ (xs : List ℕ). get_or xs p 0 < 256) same (c.is_padded.ensures.bytes p)) c.add_shards.ensures.values padded)
