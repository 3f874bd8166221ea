-- How a fault is written: its number, its layer, and what is at fault if anything is.
use Rattle.std.specs.Prelude.{ℕ, List, [], ◌++◌, codes}
use Rattle.std.specs.Fmt.{decimal}
use Rattle.store.specs.declared.fault.Culprit.{Culprit}
use Rattle.store.specs.declared.fault.Culprit.TheVariants.{Nothing, Part, Entry, TablePair, FoundPair}
use Rattle.store.specs.declared.fault.Fault.{Fault}
use Rattle.store.specs.declared.fault.Layer.{Layer}
use Rattle.store.specs.declared.fault.Layer.TheVariants.{Finder, Round, Host}
use Rattle.store.specs.Refusals.{meaning}

abbrev pub layer_text : Layer → List ℕ
layer_text Finder = codes "finder"
layer_text Round = codes "round"
layer_text Host = codes "host"

abbrev pub culprit_text : Culprit → List ℕ
culprit_text Nothing = []
culprit_text (Part i) = codes " part " ++ decimal i
culprit_text (Entry j) = codes " entry " ++ decimal j
culprit_text (TablePair k) = codes " pair " ++ decimal k
culprit_text (FoundPair i j k) = codes " part " ++ (decimal i ++ (codes " entry " ++ (decimal j ++ (codes " pair " ++ decimal k))))

abbrev pub fault_text : Fault → List ℕ
fault_text f = codes "refused " ++ (decimal (meaning f.refusal).number ++ (codes " " ++ (layer_text f.layer ++ culprit_text f.culprit)))
