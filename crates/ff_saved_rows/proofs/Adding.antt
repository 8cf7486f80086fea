-- What belongs to the last of some things is added to it.
use Rattle.std.proofs.Common.{◌≡◌, List, [], ◌∷◌, ◌++◌, map, Some, refl, sym, ap, ◌∙◌}
use Rattle.ff_records.specs.declared.records.NodeRec.{NodeRec}
use Rattle.ff_saved_rows.specs.Drafting.{with_last}
use Rattle.ff_saved_rows.specs.Drafted.{node_of}
use Rattle.ff_saved_rows.specs.declared.draft.NodeDraft.{NodeDraft}
use Rattle.ff_saved_rows.proofs.Gathering.{last_of}

pub last_changed : {X : Type 0} (change : X → X) (old before now : List X) (x y : X) → old ≡ before ++ x ∷ [] → y ≡ change x → now ≡ before ++ y ∷ [] → with_last change old ≡ Some now
last_changed change old before now x y is changed then_is =
    ap (with_last change) is ∙ last_of change before x ∙ ap (λ z. Some (before ++ z ∷ [])) (sym changed) ∙ ap Some (sym then_is)

mapped : (before : List NodeDraft) (x : NodeDraft) → map node_of (before ++ x ∷ []) ≡ map node_of before ++ node_of x ∷ []
mapped [] x = refl
mapped (y ∷ before) x = ap (λ xs. node_of y ∷ xs) (mapped before x)

pub node_changed : (change : NodeRec → NodeRec) (old before now : List NodeDraft) (x y : NodeDraft) → old ≡ before ++ x ∷ [] → node_of y ≡ change (node_of x) → now ≡ before ++ y ∷ [] → with_last change (map node_of old) ≡ Some (map node_of now)
node_changed change old before now x y is changed then_is =
    last_changed change (map node_of old) (map node_of before) (map node_of now) (node_of x) (node_of y)
    (ap (map node_of) is ∙ mapped before x) changed (ap (map node_of) then_is ∙ mapped before y)
