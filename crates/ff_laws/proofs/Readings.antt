-- What operators read off valid stores.
use Rattle.std.proofs.Common.{◌≡◌, ℕ, ◌<◌, Bool, ℤ, Option, Some, None, List, length, find, All, refl, subst, option_and_then}
use Rattle.std.specs.Str.{IsUtf8}
use Rattle.std.proofs.lemmas.List.Elements.{All-from_recursion, recursion_from_All}
use Rattle.ff_machine.proofs.Lists.{found_holds, item_holds}
use Rattle.ff_machine.proofs.Walks.{walk_made}
use Rattle.ff_name.specs.Spelling.{IsDomain}
use Rattle.ff_name.specs.Address.{IsWellSpelled}
use Rattle.ff_name.specs.declared.urls.Url.{Url}
use Rattle.ff_name.specs.declared.urls.Url.TheVariants as url
use Rattle.ff_value.specs.declared.ids.NodeId.{NodeId}
use Rattle.ff_value.specs.declared.value.Val.{Val}
use Rattle.ff_value.specs.declared.value.Val.TheVariants as val
use Rattle.ff_machine.specs.declared.records.Shape.{Shape}
use Rattle.ff_machine.specs.declared.records.Shape.TheVariants as shape
use Rattle.ff_machine.specs.Shapes.{text_of}
use Rattle.ff_machine.specs.Nodes.{Node, Walk}
use Rattle.ff_machine.specs.Net as net
use Rattle.ff_machine.specs.Operators as operators
use Rattle.ff_machine.specs.Operators.{does}
use Rattle.ff_machine.specs.Alone.{IsShape, AreTrees}

-- the domain of a well spelled address is one
pub url_domain : (u : Url) (d : List ℕ) → IsWellSpelled u → operators.domain_of u ≡ Some d → IsDomain d
url_domain url.Blank d is e = cc
url_domain (url.At domain uri) d is e = let same : domain ≡ d = cc in subst IsDomain same is.0

-- the text of a valid shape is one
pub shape_text : (x : Shape) (t : List ℕ) → IsShape x → text_of x ≡ Some t → IsUtf8 t
shape_text (shape.Text x text) t is e = let same : text ≡ t = cc in subst IsUtf8 same is.1
shape_text (shape.Link x u text) t is e = let same : text ≡ t = cc in subst IsUtf8 same is.2
shape_text (shape.TextBox x text) t is e = let same : text ≡ t = cc in subst IsUtf8 same is.1
shape_text (shape.Button x text) t is e = let same : text ≡ t = cc in subst IsUtf8 same is.1
shape_text other t is e = cc

-- an item that was found has what all have
pub found_item : {X : Type 0} (P : X → Type 0) (test : X → Bool) (xs : List X) (x : X) → All P xs → find test xs ≡ Some x → P x
found_item P test xs x all e = found_holds test P xs (recursion_from_All P xs all) x e

-- a walk stays among the nodes
pub walked_below : (all : List Node) → AreTrees all → (n : NodeId) → n.0 < length all → All (λ m. m.0 < length all) (Walk all n)
walked_below all trees n h = All-from_recursion (λ m. m.0 < length all) (Walk all n) (walk_made all trees n h)

-- so does an item of a list of nodes
pub item_below : (size : ℕ) (xs : List NodeId) (k : ℤ) (n : NodeId) → All (λ m. m.0 < size) xs → operators.item_at xs k ≡ Some n → n.0 < size
item_below size xs k n all e = item_holds (λ m. m.0 < size) xs k (recursion_from_All (λ m. m.0 < size) xs all) n e

-- a value or null
pub or_null_valid : {X : Type 0} (P : Val → Type 0) (f : X → Val) (o : Option X) → P val.Null → ((x : X) → o ≡ Some x → P (f x)) → P (operators.or_null f o)
or_null_valid P f None null some = null
or_null_valid P f (Some x) null some = some x refl

-- a cookie's value is a text
pub cookie_of : (jar : net.Jar) (domain : Option (List ℕ)) (key v : List ℕ) → ((d : List ℕ) → net.cookie jar d key ≡ Some v → IsUtf8 v) → option_and_then (λ d. net.cookie jar d key) domain ≡ Some v → IsUtf8 v
cookie_of jar None key v h e = cc
cookie_of jar (Some d) key v h e = h d e
