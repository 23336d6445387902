-- `cut_rows` parts the rows. Assumes `Logic`.
use Rattle.std.proofs.Common.{◌+◌, ◌*◌, ◌≤◌, length, take, refl}
use Rattle.std.proofs.Math.ListN.{drop as drop_l}
use Rattle.m4_area.proofs.Cuts.{cuts}
use Rattle.m4_area.proofs.Parts.{above_below}
use Rattle.m4_area.specs.contracts.area.Area.cut_rows as f
use Rattle.m4_area.proofs.area.Area.cut_rows.Statement.{statement}
use Rattle.m4_area.proofs.area.Area.cut_rows.Code as code

pub cut_rows_spec : {M : Type 1} → statement M
cut_rows_spec 𝓤 𝓛 𝓜 𝓡 wired =
    cuts (λ s n. n ≤ length s.rows) (λ s n. record s { rows = take n s.rows }) (λ s n. record s { first = s.first + n * s.step; rows = drop_l n s.rows }) 𝓛
    (λ s n. above_below 𝓛 s.block s.step n s.rows s.first (s.first + n * s.step) refl) 𝓜 𝓡 f.Key.name (code.unfolded 𝓤 𝓛.H 𝓜 𝓡 wired)
