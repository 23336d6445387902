-- None of the files before this one has the name.
use Rattle.std.proofs.Common.{◌≡◌, drop}
use Rattle.m4_model.specs.Stock.{bytes_of}
use Rattle.m4_io.specs.Memory.{stock_of}
use Rattle.m4_io.proofs.mem_shelf.number_of.Given as goal

abbrev pub invariant-loop-number : goal.invariant-loop-number
invariant-loop-number l = bytes_of (stock_of l.files) l.name ≡ bytes_of (stock_of (drop l.number l.files)) l.name
