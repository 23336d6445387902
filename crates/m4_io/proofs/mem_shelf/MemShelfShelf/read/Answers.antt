-- The bytes that were copied are the front of what is left.
use Rattle.std.proofs.Common.{◌≡◌, ◌≤◌, drop, take, length, Some, ap, sym, ◌∙◌, arith, option_map}
use Rattle.m4_io.specs.Memory.{stock_of, file_bytes, bytes_from}
use Rattle.m4_io.proofs.MemoryLemmas.{read_consumes}
use Rattle.m4_io.proofs.mem_shelf.MemShelfShelf.read.Goals as goal

pub returns-clause-rest : goal.returns-clause-rest
returns-clause-rest c =
    let files = c.self.inside.files.items in
    let all = file_bytes (stock_of files) c.in-Some.place.file in
    let byte = c.in-Some.place.byte in
    let count = c.min-count.result in
    let left : c.left_at-left.result.now ≡ drop byte all = c.left_at-left.ensures.left ∙ ap (λ fs. bytes_from (stock_of fs) c.in-Some.place) c.deref.ensures.value in
    let within : count ≤ length (drop byte all) = omega (arith, ap length left, c.min-count.ensures) in
    let was : c.args.self.now.rest ≡ Some (drop byte all) = ap (λ v. v.rest) (sym c.self.view_is) ∙ ap (option_map (bytes_from (stock_of files))) c.in-Some.is in
    read_consumes c.args.self.now.rest all c.copy_from_slice.new.self (drop count c.args.into.now) byte count _
    was
    within
    (c.copy_from_slice.ensures.after ∙ ap (take count) left)
    (λ _ none. omega (arith, ap length left, c.min-count.ensures, c.min.ensures, c.requires.room, c.self.invariant.0, none))
