use Rattle.std.proofs.Common.{◌≡◌, ◌*◌, length, sym, ◌∙◌, ap}
use denote.RawPtr.{block_ptr}
use Rattle.m4_area.proofs.TiedLemmas.{tied_whole}
use Rattle.m4_area.proofs.words.Words.from_vec.Goals as goal

pub invariant_of-result : goal.invariant_of-result
invariant_of-result c =
    let base = c.as_mut_ptr-base.result in
    let area = c.detach-area.result.0 in
    let vec = c.as_mut_ptr-base.new.self in
    let same = c.as_mut_ptr-base.ensures.unchanged in
    let at : base ≡ block_ptr area.block area.first = c.as_mut_ptr-base.ensures.value ∙ ap (λ v. v.ptr) (sym same) ∙ c.detach-area.ensures.within in
    let count : length vec.items ≡ c.args.rows * c.args.width = sym vec.ok.0 ∙ ap (λ v. v.len) same ∙ c.requires.words in
    tied_whole base c.args.rows c.args.width c.max-stride.result area vec.items at c.detach-area.ensures.step c.detach-area.ensures.words_in_rows count c.requires.small c.max-stride.ensures
