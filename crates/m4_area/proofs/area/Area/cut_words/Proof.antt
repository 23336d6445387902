-- `cut_words` parts each row. Assumes `Logic`.
use Rattle.std.proofs.Common.{◌+◌, ◌*◌, ◌≤◌, length, map, refl}
use Rattle.std.proofs.Math.ListN.{take as take_l, drop as drop_l}
use Rattle.std.specs.List.{All}
use Rattle.m4_area.proofs.Cuts.{cuts}
use Rattle.m4_area.proofs.Parts.{left_right}
use Rattle.m4_area.specs.contracts.area.Area.cut_words as f
use Rattle.m4_area.proofs.area.Area.cut_words.Statement.{statement}
use Rattle.m4_area.proofs.area.Area.cut_words.Code as code

pub cut_words_spec : {M : Type 1} → statement M
cut_words_spec 𝓤 𝓛 𝓜 𝓡 wired =
    cuts (λ s n. All (λ row. n ≤ length row) s.rows) (λ s n. record s { rows = map (take_l n) s.rows }) (λ s n. record s { first = s.first + n * 8; rows = map (drop_l n) s.rows }) 𝓛
    (λ s n. left_right 𝓛 s.block s.step n s.rows s.first (s.first + n * 8) refl) 𝓜 𝓡 f.Key.name (code.unfolded 𝓤 𝓛.H 𝓜 𝓡 wired)
