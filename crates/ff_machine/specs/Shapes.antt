-- What is read off the shape of a node.
use Rattle.std.specs.Prelude.{ℕ, Bool, true, false, not, Option, Some, None, List, [], ◌∷◌}
use Rattle.ff_name.specs.declared.urls.Url.{Url}
use Rattle.ff_tree.specs.declared.tree.Expr.{Expr}
use Rattle.ff_value.specs.declared.ids.PageId.{PageId}
use Rattle.ff_value.specs.declared.output.ShownPart.{ShownPart}
use Rattle.ff_value.specs.declared.output.ShownPart.TheVariants as shown_part
use Rattle.ff_machine.specs.declared.kinds.Kind.{Kind}
use Rattle.ff_machine.specs.declared.kinds.Kind.TheVariants as kind
use Rattle.ff_machine.specs.declared.records.Shape.{Shape}
use Rattle.ff_machine.specs.declared.records.Shape.TheVariants as shape

-- the kind of a node of this shape
abbrev pub kind_of : Shape → Kind
kind_of (shape.Page page) = kind.Page
kind_of (shape.Text x text) = kind.Text
kind_of (shape.Link x url text) = kind.Link
kind_of (shape.TextBox x text) = kind.TextBox
kind_of (shape.Button x text) = kind.Button
kind_of (shape.Script x started body) = kind.Script
kind_of (shape.Src x started url) = kind.Src
kind_of (shape.Div x) = kind.Div

-- the name; the root of a page has none
abbrev pub name_of : Shape → Option (List ℕ)
name_of (shape.Page page) = None
name_of (shape.Text x text) = Some x
name_of (shape.Link x url text) = Some x
name_of (shape.TextBox x text) = Some x
name_of (shape.Button x text) = Some x
name_of (shape.Script x started body) = Some x
name_of (shape.Src x started url) = Some x
name_of (shape.Div x) = Some x

-- the text or label of the kinds that have one
abbrev pub text_of : Shape → Option (List ℕ)
text_of (shape.Text x text) = Some text
text_of (shape.Link x url text) = Some text
text_of (shape.TextBox x text) = Some text
text_of (shape.Button x text) = Some text
text_of other = None

-- the shape with another text or label, where its kind has one
abbrev pub with_text : Shape → List ℕ → Shape
with_text (shape.Text x old) text = shape.Text x text
with_text (shape.Link x url old) text = shape.Link x url text
with_text (shape.TextBox x old) text = shape.TextBox x text
with_text (shape.Button x old) text = shape.Button x text
with_text other text = other

-- the address of a link, or of a script that is to be fetched
abbrev pub url_of : Shape → Option Url
url_of (shape.Link x url text) = Some url
url_of (shape.Src x started url) = Some url
url_of other = None

-- the expression of a script
abbrev pub body_of : Shape → Option Expr
body_of (shape.Script x started body) = Some body
body_of other = None

-- the page whose root it is
abbrev pub page_of : Shape → Option PageId
page_of (shape.Page page) = Some page
page_of other = None

-- a script, or the address of one, that was started
abbrev pub is_started : Shape → Bool
is_started (shape.Script x started body) = started
is_started (shape.Src x started url) = started
is_started other = false

-- a script, or the address of one, that wasn't started
abbrev pub is_unstarted : Shape → Bool
is_unstarted (shape.Script x started body) = not started
is_unstarted (shape.Src x started url) = not started
is_unstarted other = false

-- the shape as one that was started, where its kind is
abbrev pub as_started : Shape → Shape
as_started (shape.Script x started body) = shape.Script x true body
as_started (shape.Src x started url) = shape.Src x true url
as_started other = other

-- the kinds that have children
abbrev pub may_have_children : Shape → Bool
may_have_children (shape.Page page) = true
may_have_children (shape.Div x) = true
may_have_children other = false

-- the kinds that have handlers
abbrev pub may_have_handlers : Shape → Bool
may_have_handlers (shape.TextBox x text) = true
may_have_handlers (shape.Button x text) = true
may_have_handlers other = false

-- what the user is shown of it, where its children are shown as `parts`: nothing of a script, and
-- no page inside a page
abbrev pub shown_as : Shape → List ShownPart → List ShownPart
shown_as (shape.Page page) parts = []
shown_as (shape.Text x text) parts = shown_part.Text text ∷ []
shown_as (shape.Link x url text) parts = shown_part.Link url text ∷ []
shown_as (shape.TextBox x text) parts = shown_part.TextBox text ∷ []
shown_as (shape.Button x text) parts = shown_part.Button text ∷ []
shown_as (shape.Script x started body) parts = []
shown_as (shape.Src x started url) parts = []
shown_as (shape.Div x) parts = shown_part.Div parts ∷ []
