-- One reduction keeps stores and the evaluation valid.
use Rattle.std.proofs.Common.{◌≡◌, ◌<◌, false, length}
use Rattle.ff_value.specs.declared.ids.PageId.{PageId}
use Rattle.ff_term.specs.Running.{Evaluation, is_value}
use Rattle.ff_machine.specs.Stores.{Stores}
use Rattle.ff_machine.specs.Reduction.{Red}
use Rattle.ff_machine.specs.References.{made}
use Rattle.ff_machine.specs.Valid.{IsRunning, IsStores}
use Rattle.ff_laws.specs.Reduced.{MovesUnlessFault}
use Rattle.ff_laws.proofs.Becoming.{red_valid}
use Rattle.ff_laws.proofs.Making.{tree_made_valid}
use Rattle.ff_laws.proofs.Operate.{operate_valid}

-- one reduction, for a page that was made, keeps stores and the evaluation valid
pub red_keeps : (s : Stores) (page : PageId) (t : Evaluation) → IsStores s → page.0 < length s.windows.pages → t.base.0 < length s.windows.acts → IsRunning (made s) t.expr → is_value t.expr ≡ false
    → MovesUnlessFault s (Red s page t)
red_keeps s page t valid there lives is unfinished =
    red_valid s page t valid lives is unfinished (λ a doc made spelled. tree_made_valid s a doc valid made spelled) (λ o args are. operate_valid s page valid there o args are.1)
