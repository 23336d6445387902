-- A row of a window that is written digit by digit, and rows that are written from a list.
use Rattle.std.proofs.Common.{◌≡◌, ℕ, ◌+◌, ◌<◌, List, [], ◌++◌, length, get_or, set, take, drop, map, sym, ◌∙◌, ap, arith}
use Rattle.std.proofs.lemmas.List.{set-set, get_or-set_same, get_or-map, length-map}
use Rattle.m4_mzd.specs.Window.{Window}
use Rattle.m4_mzd.proofs.PairLemmas.{copy_next, copied, copied_more}

-- the window with the first n entries of a row written
abbrev pub begun : Window → ℕ → List ℕ → ℕ → Window
begun w r entries n = record w { bits = set w.bits r (take n entries ++ drop n (get_or w.bits r [])) }

pub begun_more : (first now next : Window) (r n value : ℕ) (entries : List ℕ) → r < length first.bits → n < length entries → n < length (get_or first.bits r [])
    → value ≡ get_or entries n 0 → now ≡ begun first r entries n → next ≡ record now { bits = set now.bits r (set (get_or now.bits r []) n value) }
    → next ≡ begun first r entries (n + 1)
begun_more first now next r n value entries high below within same is written =
    let old = get_or first.bits r [] in
    let part = take n entries ++ drop n old in
    written ∙ ap (λ (w : Window). record w { bits = set w.bits r (set (get_or w.bits r []) n value) }) is
    ∙ ap {B = Window} (λ l. record first { bits = set (set first.bits r part) r (set l n value) }) (get_or-set_same first.bits r part [] high)
    ∙ ap {B = Window} (λ l. record first { bits = l }) (set-set first.bits r part (set part n value))
    ∙ ap {B = Window} (λ l. record first { bits = set first.bits r l }) (ap (set part n) same ∙ copy_next 0 n entries old below within)

-- one more row of a list of them was written
pub listed_more : {X : Type 0} (x : X) (f : X → List ℕ) (first now next : Window) (rows : List X) (n : ℕ) → n < length rows → n < length first.bits
    → x ≡ get_or rows n x → now ≡ copied first (map f rows) n → next ≡ record now { bits = set now.bits n (f x) } → next ≡ copied first (map f rows) (n + 1)
listed_more x f first now next rows n below within is so_far written =
    copied_more first now next (map f rows) n (omega (arith, length-map rows f)) within so_far
    (written ∙ ap {B = Window} (λ l. record now { bits = set now.bits n l }) (ap f is ∙ sym (get_or-map f rows n x [] below)))
