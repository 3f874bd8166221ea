use Rattle.matcher.proofs.Carrying.{finds_first, more_finds, custom_finds, force_finds}
use Rattle.matcher.proofs.Leading.{found_leads}
use Rattle.matcher.proofs.machine.PatternMatcher.check_match.Goals as goal

pub returns-clause-finds_first : goal.returns-clause-finds_first
returns-clause-finds_first g c = finds_first

pub returns-clause-more_finds : goal.returns-clause-more_finds
returns-clause-more_finds g c = more_finds

pub returns-clause-custom_finds : goal.returns-clause-custom_finds
returns-clause-custom_finds g c = custom_finds

pub returns-clause-force_finds : goal.returns-clause-force_finds
returns-clause-force_finds g c = force_finds

pub returns-clause-found_leads : goal.returns-clause-found_leads
returns-clause-found_leads g c = found_leads
