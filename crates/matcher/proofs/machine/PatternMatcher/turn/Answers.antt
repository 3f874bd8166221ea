use Rattle.std.proofs.Common.{refl}
use Rattle.request.specs.Asked.{asked}
use Rattle.matcher.specs.declared.level.Mode.TheVariants.{Hit}
use Rattle.matcher.specs.declared.machine.PatternMatcher.{PatternMatcher}
use Rattle.matcher.proofs.Advancing.{advance_turn}
use Rattle.matcher.proofs.Missing.{off_stacked, off_here, off_turn}
use Rattle.matcher.proofs.machine.PatternMatcher.turn.Goals as goal

pub returns-in-Hit-default : goal.returns-in-Hit-default
returns-in-Hit-default g c =
    let M = c.args.self.now in
    let N : PatternMatcher = record { levels = c.pop.new.self; pairs = M.pairs; mode = M.mode } in
    let l = c.in-Some.level in
    record {
      steps = off_turn _ _ _ M N l Hit _ c.in-Hit-default.is-0 c.in-Some.ensures.last refl c.on_hit.new.self _
          (advance_turn (asked c.args.setting.now.request) _ _ N c.on_hit.new.self l _ _ _ (off_stacked _ _ _ M N l Hit _ c.in-Hit-default.is-0 c.in-Some.ensures.last refl c.requires) (off_here _ _ _ M N l Hit _ c.in-Hit-default.is-0 c.in-Some.ensures.last refl c.requires) refl refl c.on_hit.ensures);
      same = refl;
    }
