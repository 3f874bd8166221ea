-- The request that the lines read so far make. Assumes nothing.
use Rattle.std.specs.Prelude.{◌≡◌, ℕ, ◌-◌, ◌^◌, [], Some, None, vec_items, Option}
use Rattle.std.specs.Option.{unwrap_or}
use Rattle.request.specs.Asked.{Asked}
use Rattle.request.specs.Bindings as request
use Rattle.request.specs.Bindings.{of_terms, of_nodes}
use Rattle.request.specs.declared.kinds.LogEntry.{LogEntry}
use Rattle.explain.specs.declared.text.Bindings.{Bindings}
use Rattle.explain.specs.declared.text.Bindings.TheVariants.{Terms, Nodes}
use Rattle.explain.specs.declared.text.RequestText.{RequestText}
use Rattle.explain.specs.declared.host_text.HostText.{HostText}

-- a host of which no line has said anything yet
pub record Untold (h : HostText) : Type 0 where
  pub live : vec_items h.live ≡ []
  pub kind : h.class_kind ≡ None
  pub classes : vec_items h.classes ≡ []
  pub version : h.version ≡ None

-- an entry whose pairs stand in the table from this place on
abbrev pub logged : ℕ → ℕ → ℕ → LogEntry
logged node offset len = record { node = node; pairs = record { offset = offset; len = len } }

abbrev pub bound_items : Bindings → request.Bindings
bound_items (Terms items) = of_terms (vec_items items)
bound_items (Nodes items) = of_nodes (vec_items items)

-- without bindings, nothing is bound
abbrev pub bound_by : Option Bindings → request.Bindings
bound_by None = of_terms []
bound_by (Some b) = bound_items b

-- without a pattern, it is one that no term has the number of
abbrev pub asked_by : RequestText → Asked
asked_by t = record { store = t.store; pattern = unwrap_or t.pattern (2 ^ 64 - 1); bound = bound_by t.bindings; entries = vec_items t.entries; pairs = vec_items t.pairs }
