use Rattle.std.proofs.Common.{rules}
use Rattle.store.proofs.Named.{named_before}
use Rattle.store.proofs.store.Store.is_named_before.Goals as goal

pub returns-in-Some : goal.returns-in-Some
returns-in-Some c = named_before _ _ _ (search rules) _ c.is_any_named.ensures
