use Rattle.std.proofs.Common.{refl, arith}
use Rattle.request.specs.Asked.{asked}
use Rattle.matcher.proofs.Turning.{places_some, cap_64, opened_turn}
use Rattle.matcher.proofs.machine.PatternMatcher.on_down.Goals as goal

pub settle-requires : goal.settle-requires
settle-requires g c = grind (arith, places_some, cap_64)

pub returns-in-Some-Opened : goal.returns-in-Some-Opened
returns-in-Some-Opened g c = record {
  steps = opened_turn (asked c.args.setting.now.request) _ _ c.args.self.now _ _ _ c.requires.mode c.requires.sound c.if-blame-subpat.false (rw c.in-Some-Opened.field-0-is at c.in-Some-Opened.ensures) c.open.new.self _ c.mark-mark.ensures c.open.ensures;
  same = refl;
}
