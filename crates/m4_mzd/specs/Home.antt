-- The memory that the words of a matrix go back to, while the matrix is out as a window.
use Rattle.std.specs.Prelude.{◌≡◌}
use Rattle.m4_mzd.specs.Window.{Window}
use Rattle.m4_mzd.specs.Held.{words_of}
use Rattle.m4_mzd.specs.declared.mzd.windows.Home.{Home}

-- The words of the window go back there, whatever its entries are.
abbrev pub IsHomeOf : Home → Window → Type 0
IsHomeOf home window = home.storage ≡ words_of window
