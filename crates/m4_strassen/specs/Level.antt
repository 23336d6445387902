-- The quarters of a level's operands, as matrices.
use Rattle.m4_model.specs.Recursion.{Quartered}
use Rattle.m4_mzd.specs.Window.{content}
use Rattle.m4_mzd.specs.Seen.{shown}
use Rattle.m4_strassen.specs.declared.level.Read.{Read}
use Rattle.m4_strassen.specs.declared.level.Written.{Written}

-- Of a window that is read.
abbrev pub read : Read → Quartered
read r = record {
  top_left = shown r.top_left;
  top_right = shown r.top_right;
  bottom_left = shown r.bottom_left;
  bottom_right = shown r.bottom_right;
}

-- Of the window to which the product is added.
abbrev pub contents : Written → Quartered
contents w = record {
  top_left = content w.top_left;
  top_right = content w.top_right;
  bottom_left = content w.bottom_left;
  bottom_right = content w.bottom_right;
}
