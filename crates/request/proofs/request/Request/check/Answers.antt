use Rattle.std.proofs.Common.{sym, subst, inl, inr, arith, rules}
use Rattle.std.proofs.lemmas.Result.{err_from_is_err_and}
use Rattle.store.specs.declared.fault.Refusal.TheVariants.{StoreBroken, BadPattern, BadPart, BadBindings, BadEntryCount, BadEntry}
use Rattle.store.specs.Refusals.{names_nothing}
use Rattle.request.specs.Asked.{asked}
use Rattle.request.specs.Grounds.{Faulted, store_broken}
use Rattle.request.proofs.Faults.{alone, clear, broke, settled}
use Rattle.request.proofs.Keeping.{admitted_keeps}
use Rattle.request.proofs.request.Request.check.Goals as goal

pub returns-in_err-check : goal.returns-in_err-check
returns-in_err-check c =
    let R = asked c.args.self in
    let p = err_from_is_err_and c.from_residual.result c.from_residual.ensures.1 in
    record { answer = broke R StoreBroken _ _ _ p.1 p.2 (subst (Faulted R StoreBroken) (sym c.in_err-check.ensures.1) (alone R StoreBroken names_nothing (store_broken c.in_err-check.ensures.0))) (clear R 1 (omega arith) (inl (omega arith)) (inl (omega arith)) (inl (omega arith)) (inl (omega arith)) (inl (omega arith))); laws = admitted_keeps }

pub returns-in_err-check_pattern : goal.returns-in_err-check_pattern
returns-in_err-check_pattern c =
    let R = asked c.args.self in
    let p = err_from_is_err_and c.from_residual-in_err-check_pattern.result c.from_residual-in_err-check_pattern.ensures.1 in
    record { answer = broke R BadPattern _ _ _ p.1 p.2 c.in_err-check_pattern.ensures (clear R 2 (omega arith) (inr c.in_ok-check.ensures) (inl (omega arith)) (inl (omega arith)) (inl (omega arith)) (inl (omega arith))); laws = admitted_keeps }

pub returns-in_err-check_parts : goal.returns-in_err-check_parts
returns-in_err-check_parts c =
    let R = asked c.args.self in
    let p = err_from_is_err_and c.from_residual-in_err-check_parts.result c.from_residual-in_err-check_parts.ensures.1 in
    record { answer = broke R BadPart _ _ _ p.1 p.2 c.in_err-check_parts.ensures (clear R 3 (omega arith) (inr c.in_ok-check.ensures) (inr c.in_ok-check_pattern.ensures) (inl (omega arith)) (inl (omega arith)) (inl (omega arith))); laws = admitted_keeps }

pub returns-in_err-check_bindings : goal.returns-in_err-check_bindings
returns-in_err-check_bindings c =
    let R = asked c.args.self in
    let p = err_from_is_err_and c.from_residual-in_err-check_bindings.result c.from_residual-in_err-check_bindings.ensures.1 in
    record { answer = broke R BadBindings _ _ _ p.1 p.2 c.in_err-check_bindings.ensures (clear R 4 (omega arith) (inr c.in_ok-check.ensures) (inr c.in_ok-check_pattern.ensures) (inr c.in_ok-check_parts.ensures) (inl (omega arith)) (inl (omega arith))); laws = admitted_keeps }

pub returns-in_err-check_entry_count : goal.returns-in_err-check_entry_count
returns-in_err-check_entry_count c =
    let R = asked c.args.self in
    let p = err_from_is_err_and c.from_residual-in_err-check_entry_count.result c.from_residual-in_err-check_entry_count.ensures.1 in
    record { answer = broke R BadEntryCount _ _ _ p.1 p.2 c.in_err-check_entry_count.ensures (clear R 5 (omega arith) (inr c.in_ok-check.ensures) (inr c.in_ok-check_pattern.ensures) (inr c.in_ok-check_parts.ensures) (inr (search rules)) (inl (omega arith))); laws = admitted_keeps }

pub returns-in_err-check_entries : goal.returns-in_err-check_entries
returns-in_err-check_entries c =
    let R = asked c.args.self in
    let p = err_from_is_err_and c.from_residual-in_err-check_entries.result c.from_residual-in_err-check_entries.ensures.1 in
    record { answer = broke R BadEntry _ _ _ p.1 p.2 c.in_err-check_entries.ensures (clear R 6 (omega arith) (inr c.in_ok-check.ensures) (inr c.in_ok-check_pattern.ensures) (inr c.in_ok-check_parts.ensures) (inr c.in_ok-check_bindings.ensures) (inr c.in_ok-check_entry_count.ensures)); laws = admitted_keeps }

pub returns : goal.returns
returns c =
    let R = asked c.args.self in
    record {
      answer = settled R _ (λ pairs. record {
        store = c.in_ok-check.ensures;
        pattern = c.in_ok-check_pattern.ensures;
        parts = c.in_ok-check_parts.ensures;
        bindings = c.in_ok-check_bindings.ensures;
        count = c.in_ok-check_entry_count.ensures;
        entries = c.in_ok-check_entries.ensures;
        pairs = pairs;
      }) (clear R 6 (omega arith) (inr c.in_ok-check.ensures) (inr c.in_ok-check_pattern.ensures) (inr c.in_ok-check_parts.ensures) (inr c.in_ok-check_bindings.ensures) (inr c.in_ok-check_entry_count.ensures)) c.check_pairs.ensures;
      laws = admitted_keeps;
    }
