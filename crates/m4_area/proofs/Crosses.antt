-- What an area owns and shares, and what storage waits for, names no thread.
use Rattle.std.proofs.Common.{ℕ, ◌+◌, List, [], ◌∷◌}
use Rattle.std.specs.Vec.{with_items}
use base.Fraction.{full_share}
use base.Fml.{Lft}
use base.Shift.{Keyless}
use denote.Builtin.{u64}
use denote.Index.{row}
use denote.Param.Send.{IsSend, IsSync, part_keyless, array_sync, sendable, owning_send, struct_send, struct_sync}
use denote.Struct.Declared as declared
use denote.Struct.Owning.{shape, to}
use Rattle.std.proofs.Crossing.{Vec-send}
use Rattle.m4_area.specs.Strided.{strided_owns, strided_shares}
use Rattle.m4_area.specs.contracts.area.Area as Area
use Rattle.m4_area.specs.contracts.storage.Storage as Storage
use Rattle.m4_area.specs.contracts.storage.Storage.TheInside as inside

word-send : IsSend u64
word-send = search sendable

word-sync : IsSync u64
word-sync = search sendable

row-keyless : (b o : ℕ) (xs : List ℕ) → Keyless (row u64 full_share xs b o)
row-keyless b o [] = tt
row-keyless b o (x ∷ xs) = (part_keyless u64 word-send full_share x b o, row-keyless b (o + 8) xs)

strided-keyless : (b o step : ℕ) (rs : List (List ℕ)) → Keyless (strided_owns b o step rs)
strided-keyless b o step [] = tt
strided-keyless b o step (r ∷ rs) = (row-keyless b o r, strided-keyless b (o + step) step rs)

strided_shared-keyless : (b o step : ℕ) (rs : List (List ℕ)) (κ : Lft) → Keyless (strided_shares b o step rs κ)
strided_shared-keyless b o step [] κ = tt
strided_shared-keyless b o step (r ∷ rs) κ = (((array_sync u64 0 word-sync).shared r b o κ).1, strided_shared-keyless b (o + step) step rs κ)

pub area-send : IsSend Area.the_row
area-send = owning_send Area.the_type tt (λ d. strided-keyless d.block d.first d.step d.rows) (λ k x w. tt)

pub area-sync : IsSync Area.the_row
area-sync = record { shared = λ d b o κ. ((struct_sync (shape Area.the_type) tt).shared (to Area.the_type d) b o κ, strided_shared-keyless d.block d.first d.step d.rows κ) }

pub storage-send : IsSend Storage.the_row
storage-send = record {
  owned = λ f vs. (
    (λ _. tt),
    λ v whole. (
      tt,
      λ xs. (
        (tt, row-keyless f.place.block f.place.base xs),
        (struct_send (declared.shape inside.the_type) (Vec-send u64 word-send, tt)).owned (with_items v.vec xs, tt) vs,
      ),
    ),
  );
  leaving = λ k x w. tt;
}

pub storage-sync : IsSync Storage.the_row
storage-sync = record { shared = λ f b o κ. tt }
