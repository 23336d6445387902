use Rattle.std.proofs.Common.{◌≡◌, ℕ, ◌*◌, ◌^◌, ◌<◌, ◌≤◌, length, get_or, map, take, set, sym, subst, ap, ◌∙◌, arith}
use Rattle.m4_model.specs.Matrix.{Matrix, row}
use Rattle.m4_mzd.specs.Window.{content}
use Rattle.m4_mzd.specs.Rows.{rows_at, sum_of}
use Rattle.m4_mzd.specs.Seen.{shown}
use Rattle.m4_gray.specs.Slots.{Slots, picked}
use Rattle.m4_gray.proofs.SlotLemmas.{number-lt, rows-picked}
use Rattle.m4_gray.proofs.tables.Tables.combine.Goals as goal

pub add_rows-requires : goal.add_rows-requires
add_rows-requires g c =
    let t : Slots = record { k = c.self.inside.k; count = c.self.inside.count; entries = c.self.inside.entries } in
    let count : t.count ≡ c.args.self.now.count = ap (λ (s : Slots). s.count) c.self.view_is in
    let k : t.k ≡ c.args.self.now.k = ap (λ (s : Slots). s.k) c.self.view_is in
    let rows : (shown c.narrow.result).rows ≡ c.self.inside.entries.rows =
    ap (λ (A : Matrix). A.rows) (c.narrow.ensures ∙ ap (λ (A : Matrix). record A { cols = c.cols.result; entries = map (take c.cols.result) A.entries }) c.all.ensures) in
    let few : length c.args.index.now ≤ t.count = omega (arith, c.told-index, c.requires.few, count) in
    let P : ℕ → ℕ → Type 0 = λ x m. x < 2 ^ m in
    let small = λ (s : ℕ) (below : s < length c.args.index.now). subst (P (get_or c.args.index.now s 0)) (sym k) (c.requires.in_slots s 0 below) in (
      omega (arith, c.requires.few, count, c.self.invariant.few),
      (
        c.requires.some,
        (
          omega (arith, c.requires.few, count, c.self.invariant.few),
          (
            c.requires.in_rows,
            (
              (λ j d within.
                  let less : get_or c.numbered-numbers.result j d < t.count * 2 ^ t.k =
                  number-lt c.args.index.now c.numbered-numbers.result t.k t.count j d few small c.numbered-numbers.ensures within in
                  omega (arith, less, rows, c.self.invariant.rows)),
              ap (λ (A : Matrix). A.cols) c.narrow.ensures ∙ c.cols.ensures.cols,
            ),
          ),
        ),
      ),
    )

pub returns-clause-row : goal.returns-clause-row
returns-clause-row g c =
    let t : Slots = record { k = c.self.inside.k; count = c.self.inside.count; entries = c.self.inside.entries } in
    let dst = c.args.dst.now in
    let N = shown c.narrow.result in
    let narrowed : N.entries ≡ map (take c.cols.result) c.self.inside.entries.entries =
    ap (λ (A : Matrix). A.entries) (c.narrow.ensures ∙ ap (λ (A : Matrix). record A { cols = c.cols.result; entries = map (take c.cols.result) A.entries }) c.all.ensures) in
    let rows : rows_at N c.numbered-numbers.result ≡ picked c.args.self.now dst.cols c.args.index.now =
    rows-picked t N c.cols.result c.args.index.now c.numbered-numbers.result narrowed c.numbered-numbers.ensures
    ∙ (λ i. picked (c.self.view_is i) (c.cols.ensures.cols i) c.args.index.now) in
    c.add_rows.ensures.row
    ∙ ap (λ more. record dst { bits = set dst.bits c.args.r (sum_of (row (content dst) c.args.r) more) }) rows
