use Rattle.std.proofs.Common.{Decides, rules, sym, ◌∙◌, subst}
use denote.Enum.Bare.{same_true, same_false}
use Rattle.store.specs.contracts.term.HasVar.{the_type}
use Rattle.store.specs.Tables.{tables}
use Rattle.store.proofs.Decided.{refused}
use Rattle.request.specs.Grounds.{PartRules}
use Rattle.request.proofs.Parts.{part_decided}
use Rattle.request.proofs.Quantifiers.{quantified_unknown, unknown_quantified}
use Rattle.request.proofs.request.Request.is_good_part.Goals as goal

pub returns-then-eq : goal.returns-then-eq
returns-then-eq c = refused _ (λ r. r.plain (unknown_quantified _ c.requires.ruled _ c.requires.there (sym c.has_var.ensures ∙ same_true the_type (search rules) _ _ (sym c.if-eq.ensures))))

pub returns : goal.returns
returns c = subst (λ b. Decides b (PartRules (tables c.args.self.store) c.args.part)) (sym c.is_some.ensures) (part_decided _ _ _ (λ q. same_false the_type _ _ (sym c.if-eq.ensures) (c.has_var.ensures ∙ quantified_unknown _ c.requires.ruled q)) c.places.ensures)
