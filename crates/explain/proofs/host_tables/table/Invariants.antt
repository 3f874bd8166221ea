use Rattle.std.proofs.Common.{◌≡◌, take, vec_items}
use Rattle.explain.specs.Given.{given, none_given}
use Rattle.explain.proofs.host_tables.table.Given as goal

abbrev pub invariant-loop-line : goal.invariant-loop-line
invariant-loop-line g l = vec_items l.table ≡ given g.reads.0 g.reads.1 (none_given l.size) (take l.line-index l.lines)
