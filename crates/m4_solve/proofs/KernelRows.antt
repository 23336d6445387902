-- The numbers that aren't pivots are listed, and the rows of the basis are filled run by run of the pivots.
use Rattle.std.proofs.Common.{◌≡◌, ◌≢◌, ℕ, ◌+◌, ◌-◌, ◌<◌, ◌≤◌, ◌⊎◌, inl, inr, ⊎_elim, refl, sym, ◌∙◌, ap, subst, arith, List, [], ◌∷◌, ◌++◌, length, slice_index, get_or, get_or-take, get_or-drop, drop, take, set, length-append}
use Rattle.std.proofs.lemmas.Bool.{cases_lt}
use Rattle.std.proofs.lemmas.List.{length-set, get_or-set_same, get_or-set_other, get_or_append_left, get_or-append_right}
use Rattle.m4_model.specs.Matrix.{Matrix, row, at, with_entry, with_row}
use Rattle.m4_model.specs.Rank.{IsRising}
use Rattle.m4_model.proofs.EchelonLemmas.{rising-le}
use Rattle.m4_mzd.specs.Parts.{part, with_part}
use Rattle.m4_mzd.proofs.PlaceLemmas.{length-part, get_or-with_part_before, get_or-with_part_within, get_or-with_part_past}
use Rattle.m4_solve.specs.Kernel.{IsKernelRow, AreFilledTo}

-- The numbers below j are parted: the first ones of q, and those of g.
pub record ArePartedTo (q g : List ℕ) (next j : ℕ) : Type 0 where
  pub within : next ≤ length q
  pub before : (s : ℕ) → s < next → slice_index q s < j
  pub behind : (s : ℕ) → next ≤ s → s < length q → j ≤ slice_index q s
  pub rising : IsRising g
  pub below : (t : ℕ) → t < length g → slice_index g t < j
  pub apart : (t s : ℕ) → t < length g → s < length q → slice_index q s ≢ slice_index g t
  pub rest : (i : ℕ) → i < j → ((t : ℕ) → t < length g → slice_index g t ≢ i) → (s : ℕ) × (s < length q) × (slice_index q s ≡ i)

-- the next is in q
pub parted_pivot : (q g : List ℕ) (next j : ℕ) → IsRising q → next < length q → slice_index q next ≡ j → ArePartedTo q g next j → ArePartedTo q g (next + 1) (j + 1)
parted_pivot q g next j q_rising inside here old = record {
  within = omega (arith, inside);
  before = λ s early. ⊎_elim
      (λ (sooner : s < next). let low = old.before s sooner in omega (arith, low))
      (λ (last : next ≤ s). let same : s ≡ next = omega (arith, early, last) in rw (same, here) (omega arith))
      (cases_lt s next);
  behind = λ s from within. let rises = q_rising next s (omega (arith, from)) within in omega (arith, rises, here);
  rising = old.rising;
  below = λ t within. let low = old.below t within in omega (arith, low);
  apart = old.apart;
  rest = λ i low none. ⊎_elim
      (λ (sooner : i < j). old.rest i sooner none)
      (λ (last : j ≤ i). let same : j ≡ i = omega (arith, low, last) in (next, inside, here ∙ same))
      (cases_lt i j);
}

-- the next isn't
pub parted_other : (q g : List ℕ) (next j : ℕ) → IsRising q → (next < length q → slice_index q next ≢ j) → ArePartedTo q g next j
    → ArePartedTo q (g ++ j ∷ []) next (j + 1)
parted_other q g next j q_rising away old =
    let long : length (g ++ j ∷ []) ≡ length g + 1 = length-append g (j ∷ []) in
    let earlier : (t : ℕ) → t < length g → slice_index (g ++ j ∷ []) t ≡ slice_index g t = λ t inside. get_or_append_left g (j ∷ []) 0 t inside in
    let last : (t : ℕ) → t ≡ length g → slice_index (g ++ j ∷ []) t ≡ j
    = λ t same. let none : t - length g ≡ 0 = omega (arith, same) in
    get_or-append_right g (j ∷ []) (length g) t 0 refl (omega (arith, same)) ∙ ap (slice_index (j ∷ [])) none in
    let last_or : (t : ℕ) → t < length (g ++ j ∷ []) → (t < length g) ⊎ (t ≡ length g)
    = λ t inside. ⊎_elim (λ (low : t < length g). inl low) (λ (high : length g ≤ t). inr (omega (arith, high, inside, long))) (cases_lt t (length g)) in
    let above : (s : ℕ) → next ≤ s → s < length q → j < slice_index q s
    = λ s from inside.
    let start : next < length q = omega (arith, from, inside) in
    let grows = rising-le q next s q_rising from inside in
    let high = old.behind next (omega arith) start in
    let other = away start in
    omega (arith, grows, high, other) in
    record {
      within = old.within;
      before = λ s early. let low = old.before s early in omega (arith, low);
      behind = λ s from inside. let high = above s from inside in omega (arith, high);
      rising = λ i t sooner inside. ⊎_elim
          (λ (low : t < length g). rw (earlier i (omega (arith, sooner, low)), earlier t low) (old.rising i t sooner low))
          (λ (end : t ≡ length g). let small = old.below i (omega (arith, sooner, end)) in rw (earlier i (omega (arith, sooner, end)), last t end) small)
          (last_or t inside);
      below = λ t inside. ⊎_elim
          (λ (low : t < length g). let small = old.below t low in rw (earlier t low) (omega (arith, small)))
          (λ (end : t ≡ length g). rw (last t end) (omega arith))
          (last_or t inside);
      apart = λ t s inside within. ⊎_elim
          (λ (low : t < length g). rw (earlier t low) (old.apart t s low within))
          (λ (end : t ≡ length g). rw (last t end) (λ same. ⊎_elim
          (λ (early : s < next). let small = old.before s early in absurd (omega (arith, small, same)))
          (λ (late : next ≤ s). let large = above s late within in absurd (omega (arith, large, same)))
          (cases_lt s next)))
          (last_or t inside);
      rest = λ i low none. ⊎_elim
          (λ (sooner : i < j). old.rest i sooner (λ t inside same. none t (omega (arith, inside, long)) (earlier t inside ∙ same)))
          (λ (end : j ≤ i). let same : j ≡ i = omega (arith, low, end) in absurd (none (length g) (omega (arith, long)) (last (length g) refl ∙ same)))
          (cases_lt i j);
    }

-- an entry that is written, and the others
pub at-written : (A : Matrix) (r c x : ℕ) → r < length A.entries → c < length (row A r) → at (with_entry A r c x) r c ≡ x
at-written A r c x in_rows in_cols =
    ap (λ (xs : List ℕ). get_or xs c 0) (get_or-set_same A.entries r (set (row A r) c x) [] in_rows) ∙ get_or-set_same (row A r) c x 0 in_cols

pub at-written_beside : (A : Matrix) (r c x j : ℕ) → r < length A.entries → j ≢ c → at (with_entry A r c x) r j ≡ at A r j
at-written_beside A r c x j in_rows other =
    ap (λ (xs : List ℕ). get_or xs j 0) (get_or-set_same A.entries r (set (row A r) c x) [] in_rows) ∙ get_or-set_other (row A r) c j x 0 other

pub at-written_away : (A : Matrix) (r c x i j : ℕ) → i ≢ r → at (with_entry A r c x) i j ≡ at A i j
at-written_away A r c x i j other = ap (λ (xs : List ℕ). get_or xs j 0) (get_or-set_other A.entries r i (set (row A r) c x) [] other)

-- The first t rows of K are made of those of K0 by f, and the others are those of K0.
pub record AreMadeTo (f : ℕ → List ℕ → List ℕ) (t : ℕ) (K0 K : Matrix) : Type 0 where
  pub height : length K.entries ≡ length K0.entries
  pub made : (u : ℕ) → u < t → row K u ≡ f u (row K0 u)
  pub later : (u : ℕ) → t ≤ u → row K u ≡ row K0 u

pub made_none : (f : ℕ → List ℕ → List ℕ) (K : Matrix) → AreMadeTo f 0 K K
made_none f K = record {
  height = refl;
  made = λ u before. absurd (omega (arith, before));
  later = λ u from. refl;
}

-- one row more
pub made_more : (f : ℕ → List ℕ → List ℕ) (t : ℕ) (K0 K : Matrix) → t < length K0.entries → AreMadeTo f t K0 K → AreMadeTo f (t + 1) K0 (with_row K t (f t (row K t)))
made_more f t K0 K in_rows old =
    let xs = f t (row K t) in
    let height = old.height in
    let here : row (with_row K t xs) t ≡ xs = get_or-set_same K.entries t xs [] (omega (arith, height, in_rows)) in
    let away : (u : ℕ) → u ≢ t → row (with_row K t xs) u ≡ row K u = λ u other. get_or-set_other K.entries t u xs [] other in
    record {
      height = length-set K.entries t xs ∙ height;
      made = λ u before. ⊎_elim
          (λ (earlier : u < t). away u (λ same. absurd (omega (arith, same, earlier))) ∙ old.made u earlier)
          (λ (last : t ≤ u).
          let same : t ≡ u = omega (arith, before, last) in
          subst (λ (u : ℕ). row (with_row K t xs) u ≡ f u (row K0 u)) same (here ∙ ap (f t) (old.later t (omega arith))))
          (cases_lt u t);
      later = λ u from. away u (λ same. absurd (omega (arith, same, from))) ∙ old.later u (omega (arith, from));
    }

-- rows in which an entry became 1
module _ (K0 K : Matrix) (g : List ℕ) (t : ℕ) (done : row K t ≡ set (row K0 t) (slice_index g t) 1) where
  pub one_put : slice_index g t < length (row K0 t) → at K t (slice_index g t) ≡ 1
  one_put inside = ap (λ (xs : List ℕ). get_or xs (slice_index g t) 0) done ∙ get_or-set_same (row K0 t) (slice_index g t) 1 0 inside

  pub one_beside : (j : ℕ) → j ≢ slice_index g t → at K t j ≡ at K0 t j
  one_beside j other = ap (λ (xs : List ℕ). get_or xs j 0) done ∙ get_or-set_other (row K0 t) (slice_index g t) j 1 0 other

-- a row in which entries were copied from another
module _ (xs zs ys : List ℕ) (c d count : ℕ) (done : ys ≡ with_part c (part d count zs) xs) (source : d + count ≤ length zs) (target : c + count ≤ length xs) where
  long : length (part d count zs) ≡ count
  long = length-part d count zs source

  room : c + length (part d count zs) ≤ length xs
  room = let own = long in omega (arith, own, target)

  pub part_within : (u : ℕ) → u < count → slice_index ys (c + u) ≡ slice_index zs (d + u)
  part_within u inside =
      let own = long in
      let place : c + u - c ≡ u = omega arith in
      ap (λ (xs : List ℕ). get_or xs (c + u) 0) done
      ∙ get_or-with_part_within c (part d count zs) xs room (c + u) (omega arith) (omega (arith, own, inside))
      ∙ ap (λ (j : ℕ). get_or (part d count zs) j 0) place
      ∙ get_or-take count (drop d zs) u 0 inside
      ∙ get_or-drop d zs u 0

  pub part_outside : (j : ℕ) → ((u : ℕ) → u < count → c + u ≢ j) → slice_index ys j ≡ slice_index xs j
  part_outside j none =
      let own = long in
      ap (λ (xs : List ℕ). get_or xs j 0) done ∙ ⊎_elim
      (λ (before : j < c). get_or-with_part_before c (part d count zs) xs room j before)
      (λ (from : c ≤ j). ⊎_elim
      (λ (inside : j < c + count). absurd (none (j - c) (omega (arith, from, inside)) (omega (arith, from))))
      (λ (past : c + count ≤ j). get_or-with_part_past c (part d count zs) xs room j (omega (arith, past, own)))
      (cases_lt j (c + count)))
      (cases_lt j c)

-- the ones alone
pub filled_start : (R K : Matrix) (q g : List ℕ) → K.rows ≡ length g → K.cols ≡ R.cols → ((t : ℕ) → t < length g → at K t (slice_index g t) ≡ 1)
    → ((t j : ℕ) → t < length g → j < K.cols → j ≢ slice_index g t → at K t j ≡ 0) → AreFilledTo R q g 0 K
filled_start R K q g rows cols ones zeros = record {
  rows = rows;
  cols = cols;
  filled = λ t inside. record {
    own = ones t inside;
    at_pivots = λ u before. absurd (omega (arith, before));
    elsewhere = λ j within other none. zeros t j inside within other;
  };
}

-- one run of pivots more
pub filled_run : (R K N : Matrix) (q g : List ℕ) (s count : ℕ) → IsRising q → s + count ≤ length q
    → ((u : ℕ) → u < count → slice_index q (s + u) ≡ slice_index q s + u)
    → ((t u : ℕ) → t < length g → u < length q → slice_index q u ≢ slice_index g t)
    → N.rows ≡ K.rows → N.cols ≡ K.cols
    → ((t u : ℕ) → t < length g → u < count → at N t (slice_index q s + u) ≡ at R (s + u) (slice_index g t))
    → ((t j : ℕ) → t < length g → ((u : ℕ) → u < count → slice_index q s + u ≢ j) → at N t j ≡ at K t j)
    → AreFilledTo R q g s K → AreFilledTo R q g (s + count) N
filled_run R K N q g s count rising fits run apart rows cols copied others old = record {
  rows = rows ∙ old.rows;
  cols = cols ∙ old.cols;
  filled = λ t inside.
      let its = old.filled t inside in
      record {
        own = others t (slice_index g t) inside (λ u below same. apart t (s + u) inside (omega (arith, below, fits)) (run u below ∙ same)) ∙ its.own;
        at_pivots = λ u before. ⊎_elim
            (λ (earlier : u < s).
            others t (slice_index q u) inside (λ v below same.
            let rises = rising u (s + v) (omega (arith, earlier)) (omega (arith, below, fits)) in
            let place = run v below in
            absurd (omega (arith, rises, place, same)))
            ∙ its.at_pivots u earlier)
            (λ (from : s ≤ u).
            let place : s + (u - s) ≡ u = omega (arith, from) in
            let short : u - s < count = omega (arith, from, before) in
            ap (at N t) (ap (slice_index q) (sym place) ∙ run (u - s) short) ∙ copied t (u - s) inside short
            ∙ ap (λ (u : ℕ). at R u (slice_index g t)) place)
            (cases_lt u s);
        elsewhere = λ j within other none.
            others t j inside (λ v below same. none (s + v) (omega (arith, below)) (run v below ∙ same))
            ∙ its.elsewhere j (omega (arith, within, cols)) other (λ u earlier. none u (omega (arith, earlier)));
      };
}

-- The first k rows of R.
abbrev pub top_rows : ℕ → Matrix → Matrix
top_rows k R = record R { rows = k; entries = take k R.entries }

-- a row that is read off them is read off R
pub row_of_top : (R : Matrix) (q : List ℕ) (g t : ℕ) (K : Matrix) → IsKernelRow (top_rows (length q) R) q g t K → IsKernelRow R q g t K
row_of_top R q g t K row = record {
  own = row.own;
  at_pivots = λ s inside. row.at_pivots s inside ∙ ap (λ (xs : List ℕ). get_or xs g 0) (get_or-take (length q) R.entries s [] inside);
  elsewhere = row.elsewhere;
}
