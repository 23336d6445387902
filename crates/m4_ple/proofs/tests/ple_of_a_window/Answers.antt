use Rattle.std.proofs.Common.{sym, subst}
use Rattle.m4_mzd.specs.declared.rect.Rect.{Rect}
use Rattle.m4_mzed.specs.EWindow.{EWindow, content}
use Rattle.m4_mzed.specs.Taken.{IsAround}
use Rattle.m4_ple.proofs.tests.ple_of_a_window.Goals as goal

abbrev place : Rect
place = record { r0 = 1; c0 = 64; r1 = 4; c1 = 130 }

pub put_win-requires : goal.put_win-requires
put_win-requires g c =
    let P : EWindow → Type 0 = λ w. IsAround c.win_mut-part.result.1 w place c.of_bits-m.result in
    record {
      fits = record {
        rect = place;
        matrix = c.of_bits-m.result;
        is = subst P (sym c.ple_plain-rank.ensures.kept) (c.win_mut-part.ensures.whatever_it_shows (content c.ple_plain-rank.new.a));
      };
    }
