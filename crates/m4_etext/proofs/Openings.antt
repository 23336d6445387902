-- Two numbers behind an opening: where bytes go wrong in them.
use Rattle.std.proofs.Common.{◌≡◌, ℕ, ◌+◌, ◌-◌, ◌<◌, ◌≤◌, false, List, [], ◌∷◌, ◌++◌, length, take, drop, refl, sym, ◌∙◌, ap, subst₂, arith, append_assoc, length-append, length-take, length-drop, take-append-drop, take_at}
use Rattle.std.specs.Fmt.{digits}
use Rattle.m4_etext.specs.Place.{GoesWrong, GoesWrongFrom, IsNumber, IsDigitIn, IsNumberAt}
use Rattle.m4_etext.proofs.Fronts.{IsPrefixFree, IsPrefixFree-joined, Joined, GoesWrong-first, GoesWrong-second}
use Rattle.m4_etext.proofs.Numerals.{IsBase}
use Rattle.m4_etext.proofs.Numbers.{IsPrefixFree-number, some_number}

-- how far a number with its ending goes
number_len : (b most : ℕ) (bytes : List ℕ) (start ending value end : ℕ) → start ≤ length bytes → IsNumberAt b most bytes start ending value end
    → start + length (digits b false value ++ ending ∷ []) ≡ end
number_len b most bytes start ending value end inside number =
    omega (
      arith,
      number.within,
      length-drop start bytes,
      length-drop end bytes,
      ap length number.spelled,
      length-append (digits b false value ++ ending ∷ []) (drop end bytes),
    )

-- a number goes on
pub behind_first : (b most : ℕ) (bytes : List ℕ) (start ending value end : ℕ) → start ≤ length bytes → IsNumberAt b most bytes start ending value end → start < end
behind_first b most bytes start ending value end inside number =
    let l = number_len b most bytes start ending value end inside number in
    omega (arith, l, length-append (digits b false value) (ending ∷ []))

-- the numbers, their bases and most digits, and the bytes that end them
pub record AreNumbers (b most ending b' most' ending' : ℕ) : Type 0 where
  pub base : IsBase b
  pub some : 0 < most
  pub few : most ≤ 63
  pub other : IsDigitIn b ending → ⊥
  pub base' : IsBase b'
  pub some' : 0 < most'
  pub few' : most' ≤ 63
  pub other' : IsDigitIn b' ending' → ⊥

module _ (O : List ℕ → Type 0) (free : IsPrefixFree O) (b most ending b' most' ending' : ℕ) (are : AreNumbers b most ending b' most' ending') where
  abbrev First : List ℕ → Type 0
  First = IsNumber b most ending

  abbrev Second : List ℕ → Type 0
  Second = IsNumber b' most' ending'

  abbrev Sizes : List ℕ → Type 0
  Sizes = Joined First Second

  abbrev Whole : List ℕ → Type 0
  Whole = Joined O Sizes

  free_first : IsPrefixFree (IsNumber b most ending)
  free_first = IsPrefixFree-number b most are.base are.some are.few ending are.other

  free_second : IsPrefixFree (IsNumber b' most' ending')
  free_second = IsPrefixFree-number b' most' are.base' are.some' are.few' ending' are.other'

  one_second : IsNumber b' most' ending' (digits b' false 0 ++ ending' ∷ [])
  one_second = some_number b' most' are.base' are.some' are.few' ending'

  one_first : IsNumber b most ending (digits b false 0 ++ ending ∷ [])
  one_first = some_number b most are.base are.some are.few ending

  pub IsPrefixFree-whole : IsPrefixFree (Joined O (Joined (IsNumber b most ending) (IsNumber b' most' ending')))
  IsPrefixFree-whole = IsPrefixFree-joined O Sizes free (IsPrefixFree-joined First Second free_first free_second)

  -- bytes go wrong in the opening
  pub wrong_before : (bytes : List ℕ) (place : ℕ) → GoesWrong O bytes place → GoesWrong (Joined O (Joined (IsNumber b most ending) (IsNumber b' most' ending'))) bytes place
  wrong_before bytes place found =
      let last = (digits b false 0 ++ ending ∷ []) ++ (digits b' false 0 ++ ending' ∷ []) in
      GoesWrong-first O Sizes free last (digits b false 0 ++ ending ∷ [], digits b' false 0 ++ ending' ∷ [], one_first, one_second, refl) bytes place found

  module _ (bytes : List ℕ) (opened : ℕ) (within : opened ≤ length bytes) (letters : O (take opened bytes)) where
    -- bytes go wrong behind it
    wrong_sizes : (place : ℕ) → opened ≤ place → GoesWrong (Joined (IsNumber b most ending) (IsNumber b' most' ending')) (drop opened bytes) (place - opened)
        → GoesWrong (Joined O (Joined (IsNumber b most ending) (IsNumber b' most' ending'))) bytes place
    wrong_sizes place behind found =
        let whole = GoesWrong-second O Sizes free (take opened bytes) letters (drop opened bytes) (place - opened) found in
        let here : length (take opened bytes) + (place - opened) ≡ place = omega (arith, length-take opened bytes, within) in
        subst₂ (GoesWrong Whole) (take-append-drop opened bytes) here whole

    -- in the first number
    pub wrong_first : (place : ℕ) → GoesWrongFrom (IsNumber b most ending) bytes opened place
        → GoesWrong (Joined O (Joined (IsNumber b most ending) (IsNumber b' most' ending'))) bytes place
    wrong_first place found =
        wrong_sizes place found.behind
        (GoesWrong-first First Second free_first (digits b' false 0 ++ ending' ∷ []) one_second (drop opened bytes) (place - opened) found.wrong)

    -- in the second
    pub wrong_second : (value end place : ℕ) → IsNumberAt b most bytes opened ending value end → GoesWrongFrom (IsNumber b' most' ending') bytes end place
        → GoesWrong (Joined O (Joined (IsNumber b most ending) (IsNumber b' most' ending'))) bytes place
    wrong_second value end place number found =
        let first = digits b false value ++ ending ∷ [] in
        let far = number_len b most bytes opened ending value end within number in
        let sizes = GoesWrong-second First Second free_first first (value, number.small, refl) (drop end bytes) (place - end) found.wrong in
        let here : length first + (place - end) ≡ place - opened = omega (arith, far, found.behind) in
        wrong_sizes place (omega (arith, far, found.behind)) (subst₂ (GoesWrong Sizes) (sym number.spelled) here sizes)

    -- both numbers are there
    pub numbers_read : (value middle value' end : ℕ) → IsNumberAt b most bytes opened ending value middle → IsNumberAt b' most' bytes middle ending' value' end
        → take end bytes ≡ take opened bytes ++ ((digits b false value ++ ending ∷ []) ++ (digits b' false value' ++ ending' ∷ []))
    numbers_read value middle value' end first second =
        let x = take opened bytes in
        let y = digits b false value ++ ending ∷ [] in
        let z = digits b' false value' ++ ending' ∷ [] in
        let rest = drop end bytes in
        let parted : bytes ≡ x ++ (y ++ (z ++ rest)) =
        sym (take-append-drop opened bytes) ∙ ap (λ w. x ++ w) (first.spelled ∙ ap (λ w. y ++ w) second.spelled) in
        let joined : x ++ (y ++ (z ++ rest)) ≡ (x ++ (y ++ z)) ++ rest =
        ap (λ w. x ++ w) (sym (append_assoc y z rest)) ∙ sym (append_assoc x (y ++ z) rest) in
        let far : length (x ++ (y ++ z)) ≡ end =
        omega (arith, second.within, length-drop end bytes, ap length (parted ∙ joined), length-append (x ++ (y ++ z)) rest) in
        ap (take end) (parted ∙ joined) ∙ take_at (x ++ (y ++ z)) rest end far
