-- The widths of packed elements: a word holds a whole number of them.
use Rattle.std.proofs.Common.{◌≡◌, ◌≢◌, ℕ, ◌+◌, ◌*◌, ◌/◌, ◌<◌, ◌≤◌, inl, inr, refl, sym, subst, arith, ◌==◌, ◌||◌, IsTrue}
use Rattle.std.proofs.lemmas.Bool.{cases_eq}

pub record Fills (w : ℕ) : Type 0 where
  pub some : 1 ≤ w
  pub few : w ≤ 16
  pub whole : 64 / w * w ≡ 64

last_width : (w : ℕ) → IsTrue (w == 1 || w == 2 || w == 4 || w == 8 || w == 16) → w ≢ 1 → w ≢ 2 → w ≢ 4 → w ≢ 8 → w ≡ 16
last_width w is a b c d = grind arith

at_width : (w v : ℕ) → w ≡ v → Fills v → Fills w
at_width w v is fills = let P : ℕ → Type 0 = Fills in subst P (sym is) fills

pub fills : (w : ℕ) → IsTrue (w == 1 || w == 2 || w == 4 || w == 8 || w == 16) → Fills w
fills w is =
    elim (cases_eq w 1) [
      | inl e ↦ at_width w 1 e (record { some = omega arith; few = omega arith; whole = refl })
      | inr a ↦ elim (cases_eq w 2) [
        | inl e ↦ at_width w 2 e (record { some = omega arith; few = omega arith; whole = refl })
        | inr b ↦ elim (cases_eq w 4) [
          | inl e ↦ at_width w 4 e (record { some = omega arith; few = omega arith; whole = refl })
          | inr c ↦ elim (cases_eq w 8) [
            | inl e ↦ at_width w 8 e (record { some = omega arith; few = omega arith; whole = refl })
            | inr d ↦ at_width w 16 (last_width w is a b c d) (record { some = omega arith; few = omega arith; whole = refl })
          ]
        ]
      ]
    ]

pub next_le : (j n w : ℕ) → j < n → j * w + w ≤ n * w
next_le j n w less = grind arith
