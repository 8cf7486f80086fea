-- The text of a run, over no input and over one more.
use Rattle.std.proofs.Common.{◌≡◌, List, [], ◌∷◌, ◌++◌, ap, ◌∙◌}
use Rattle.ff_confinement.specs.Runs.{Machine, after, plain}
use Rattle.ff_confinement.specs.Copies.{Levels, multi_entry, multi}
use Rattle.ff_confinement.specs.Text.{text_of, text_out}
use Rattle.ff_confinement.proofs.Runs.{plain_start, plain_more}
use Rattle.ff_confinement.proofs.Copies.{multi_start, multi_more}
use Rattle.ff_confinement.proofs.Text.{text_out_none, text_out_push}

module _ {I O S : Type 0} (m : Machine I O S) (v : Levels I O) where
  -- the plain run
  pub plain_text_start : text_out v (plain m []) ≡ []
  plain_text_start = ap (text_out v) (plain_start m) ∙ text_out_none v

  pub plain_text_more : (is : List I) (i : I) → text_out v (plain m (is ++ i ∷ [])) ≡ text_out v (plain m is) ++ text_of v (m.handle (after m is) i).outputs
  plain_text_more is i = ap (text_out v) (plain_more m is i) ∙ text_out_push v (plain m is) (m.handle (after m is) i).outputs

  -- and the multi-executed one
  pub text_start : text_out v (multi m v []) ≡ []
  text_start = ap (text_out v) (multi_start m v) ∙ text_out_none v

  pub text_more : (is : List I) (i : I) → text_out v (multi m v (is ++ i ∷ [])) ≡ text_out v (multi m v is) ++ text_of v (multi_entry m v is i)
  text_more is i = ap (text_out v) (multi_more m v is i) ∙ text_out_push v (multi m v is) (multi_entry m v is i)
