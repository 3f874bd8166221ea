use Rattle.explain.proofs.host_text.HostText.tables.Given as goal

abbrev pub ghost-table : goal.ghost-table
ghost-table a = (λ l. l.term, λ l. l.node)

abbrev pub ghost-table-2 : goal.ghost-table-2
ghost-table-2 a = (λ l. l.node, λ l. l.loose)

abbrev pub ghost-table-3 : goal.ghost-table-3
ghost-table-3 a = (λ l. l.node, λ l. l.strict)
