use Rattle.store.proofs.store.Store.keeps_all.Goals as goal

pub returns : goal.returns
returns c =
    let few = c.is_small.ensures.0 c.if-not-is_small.false in (
      λ e. record {
        few_terms = few.0;
        few_nodes = few.1;
        few_cells = few.2;
        few_symbols = few.3;
        few_name_bytes = few.4;
        children_laid = c.are_laid.ensures.0 c.if-not-are_laid.false;
        names_laid = c.are_names_laid.ensures.0 c.if-not-are_names_laid.false;
        names_distinct = c.are_names_distinct.ensures.0 c.if-not-are_names_distinct.false;
        terms_ruled = c.are_terms_ruled.ensures.0 c.if-not-are_terms_ruled.false;
        owners_listed = c.are_owners_listed.ensures.0 e;
      },
      λ r. c.are_owners_listed.ensures.1 r.owners_listed,
    )
