-- A window that is cut between two rows, of which one is written, and joined again.
use Rattle.std.proofs.Common.{◌≡◌, ℕ, ◌+◌, ◌-◌, ◌*◌, ◌<◌, ◌≤◌, List, set, take, drop, ◌++◌, refl, arith}
use Rattle.std.proofs.lemmas.List.{take-append-drop}
use Rattle.m4_model.specs.Matrix.{IsMatrix}
use Rattle.m4_area.proofs.RowLemmas.{set_above, set_below}
use Rattle.m4_mzed.specs.EWindow.{EWindow, content}
use Rattle.m4_mzed.proofs.PartLemmas.{same_window}

-- a window that is cut and joined is as it was, but for its entries
abbrev pub upper : EWindow → ℕ → EWindow
upper w r = record w { rows = r; entries = take r w.entries; past = take r w.past }

abbrev pub lower : EWindow → ℕ → EWindow
lower w r = record w { skip = w.skip + r * w.place.stride; rows = w.rows - r; entries = drop r w.entries; past = drop r w.past }

abbrev pub stacked : EWindow → EWindow → EWindow
stacked a b = record a { rows = a.rows + b.rows; entries = a.entries ++ b.entries; past = a.past ++ b.past }

rejoined : (w : EWindow) (r : ℕ) (entries now : List (List ℕ)) → r ≤ w.rows → entries ≡ now
    → record w { rows = r + (w.rows - r); entries = entries; past = take r w.past ++ drop r w.past } ≡ record w { entries = now }
rejoined w r entries now within e =
    let rows : r + (w.rows - r) ≡ w.rows = omega arith in
    same_window _ _ refl refl refl rows refl e (take-append-drop r w.past)

-- row i of the lower part was written
pub written_below : (w : EWindow) (r i : ℕ) (new : List ℕ) → IsMatrix (content w) → r ≤ w.rows
    → stacked (upper w r) (record (lower w r) { entries = set (lower w r).entries i new }) ≡ record w { entries = set w.entries (r + i) new }
written_below w r i new shape within = rejoined w r _ _ within (set_below w.entries r i new (omega (arith, shape.height)))

-- row i of the upper part was written
pub written_above : (w : EWindow) (r i : ℕ) (new : List ℕ) → IsMatrix (content w) → i < r → r ≤ w.rows
    → stacked (record (upper w r) { entries = set (upper w r).entries i new }) (lower w r) ≡ record w { entries = set w.entries i new }
written_above w r i new shape above within = rejoined w r _ _ within (set_above w.entries r i new above (omega (arith, shape.height)))
