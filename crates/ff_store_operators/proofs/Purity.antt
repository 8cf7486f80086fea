-- Operators that aren't of the stores are pure.
use Rattle.std.proofs.Common.{◌≡◌, ◌≢◌, Bool, true, false, List, refl}
use Rattle.ff_tree.specs.declared.op.Op.{Op}
use Rattle.ff_tree.specs.declared.op.Op.TheVariants as op
use Rattle.ff_operators.specs.Pure.{apply}
use Rattle.ff_value.specs.declared.ids.PageId.{PageId}
use Rattle.ff_value.specs.declared.value.Val.{Val}
use Rattle.ff_machine.specs.Operators.{operate, with_mass}
use Rattle.ff_machine.specs.Stores.{Stores}

-- the operator reads or changes the stores
abbrev pub is_of_stores : Op → Bool
is_of_stores op.Cookie = true
is_of_stores op.SetCookie = true
is_of_stores op.DelCookie = true
is_of_stores op.SelfWindow = true
is_of_stores op.Opener = true
is_of_stores op.Live = true
is_of_stores op.Url = true
is_of_stores op.Page = true
is_of_stores op.Window = true
is_of_stores op.Open = true
is_of_stores op.OpenNamed = true
is_of_stores op.Go = true
is_of_stores op.Close = true
is_of_stores op.Kind = true
is_of_stores op.Text = true
is_of_stores op.SetText = true
is_of_stores op.Count = true
is_of_stores op.Child = true
is_of_stores op.Find = true
is_of_stores op.Nth = true
is_of_stores op.Insert = true
is_of_stores op.Listen = true
is_of_stores op.Ask = true
is_of_stores other = false

-- an operator that is none of those is pure
pub not_of_stores : (o : Op) → o ≢ op.Cookie → o ≢ op.SetCookie → o ≢ op.DelCookie → o ≢ op.SelfWindow → o ≢ op.Opener → o ≢ op.Live → o ≢ op.Url → o ≢ op.Page → o ≢ op.Window → o ≢ op.Open → o ≢ op.OpenNamed → o ≢ op.Go → o ≢ op.Close → o ≢ op.Kind → o ≢ op.Text → o ≢ op.SetText → o ≢ op.Count → o ≢ op.Child → o ≢ op.Find → o ≢ op.Nth → o ≢ op.Insert → o ≢ op.Listen → o ≢ op.Ask → is_of_stores o ≡ false
not_of_stores op.Cookie n0 n1 n2 n3 n4 n5 n6 n7 n8 n9 n10 n11 n12 n13 n14 n15 n16 n17 n18 n19 n20 n21 n22 = absurd (n0 refl)
not_of_stores op.SetCookie n0 n1 n2 n3 n4 n5 n6 n7 n8 n9 n10 n11 n12 n13 n14 n15 n16 n17 n18 n19 n20 n21 n22 = absurd (n1 refl)
not_of_stores op.DelCookie n0 n1 n2 n3 n4 n5 n6 n7 n8 n9 n10 n11 n12 n13 n14 n15 n16 n17 n18 n19 n20 n21 n22 = absurd (n2 refl)
not_of_stores op.SelfWindow n0 n1 n2 n3 n4 n5 n6 n7 n8 n9 n10 n11 n12 n13 n14 n15 n16 n17 n18 n19 n20 n21 n22 = absurd (n3 refl)
not_of_stores op.Opener n0 n1 n2 n3 n4 n5 n6 n7 n8 n9 n10 n11 n12 n13 n14 n15 n16 n17 n18 n19 n20 n21 n22 = absurd (n4 refl)
not_of_stores op.Live n0 n1 n2 n3 n4 n5 n6 n7 n8 n9 n10 n11 n12 n13 n14 n15 n16 n17 n18 n19 n20 n21 n22 = absurd (n5 refl)
not_of_stores op.Url n0 n1 n2 n3 n4 n5 n6 n7 n8 n9 n10 n11 n12 n13 n14 n15 n16 n17 n18 n19 n20 n21 n22 = absurd (n6 refl)
not_of_stores op.Page n0 n1 n2 n3 n4 n5 n6 n7 n8 n9 n10 n11 n12 n13 n14 n15 n16 n17 n18 n19 n20 n21 n22 = absurd (n7 refl)
not_of_stores op.Window n0 n1 n2 n3 n4 n5 n6 n7 n8 n9 n10 n11 n12 n13 n14 n15 n16 n17 n18 n19 n20 n21 n22 = absurd (n8 refl)
not_of_stores op.Open n0 n1 n2 n3 n4 n5 n6 n7 n8 n9 n10 n11 n12 n13 n14 n15 n16 n17 n18 n19 n20 n21 n22 = absurd (n9 refl)
not_of_stores op.OpenNamed n0 n1 n2 n3 n4 n5 n6 n7 n8 n9 n10 n11 n12 n13 n14 n15 n16 n17 n18 n19 n20 n21 n22 = absurd (n10 refl)
not_of_stores op.Go n0 n1 n2 n3 n4 n5 n6 n7 n8 n9 n10 n11 n12 n13 n14 n15 n16 n17 n18 n19 n20 n21 n22 = absurd (n11 refl)
not_of_stores op.Close n0 n1 n2 n3 n4 n5 n6 n7 n8 n9 n10 n11 n12 n13 n14 n15 n16 n17 n18 n19 n20 n21 n22 = absurd (n12 refl)
not_of_stores op.Kind n0 n1 n2 n3 n4 n5 n6 n7 n8 n9 n10 n11 n12 n13 n14 n15 n16 n17 n18 n19 n20 n21 n22 = absurd (n13 refl)
not_of_stores op.Text n0 n1 n2 n3 n4 n5 n6 n7 n8 n9 n10 n11 n12 n13 n14 n15 n16 n17 n18 n19 n20 n21 n22 = absurd (n14 refl)
not_of_stores op.SetText n0 n1 n2 n3 n4 n5 n6 n7 n8 n9 n10 n11 n12 n13 n14 n15 n16 n17 n18 n19 n20 n21 n22 = absurd (n15 refl)
not_of_stores op.Count n0 n1 n2 n3 n4 n5 n6 n7 n8 n9 n10 n11 n12 n13 n14 n15 n16 n17 n18 n19 n20 n21 n22 = absurd (n16 refl)
not_of_stores op.Child n0 n1 n2 n3 n4 n5 n6 n7 n8 n9 n10 n11 n12 n13 n14 n15 n16 n17 n18 n19 n20 n21 n22 = absurd (n17 refl)
not_of_stores op.Find n0 n1 n2 n3 n4 n5 n6 n7 n8 n9 n10 n11 n12 n13 n14 n15 n16 n17 n18 n19 n20 n21 n22 = absurd (n18 refl)
not_of_stores op.Nth n0 n1 n2 n3 n4 n5 n6 n7 n8 n9 n10 n11 n12 n13 n14 n15 n16 n17 n18 n19 n20 n21 n22 = absurd (n19 refl)
not_of_stores op.Insert n0 n1 n2 n3 n4 n5 n6 n7 n8 n9 n10 n11 n12 n13 n14 n15 n16 n17 n18 n19 n20 n21 n22 = absurd (n20 refl)
not_of_stores op.Listen n0 n1 n2 n3 n4 n5 n6 n7 n8 n9 n10 n11 n12 n13 n14 n15 n16 n17 n18 n19 n20 n21 n22 = absurd (n21 refl)
not_of_stores op.Ask n0 n1 n2 n3 n4 n5 n6 n7 n8 n9 n10 n11 n12 n13 n14 n15 n16 n17 n18 n19 n20 n21 n22 = absurd (n22 refl)
not_of_stores other n0 n1 n2 n3 n4 n5 n6 n7 n8 n9 n10 n11 n12 n13 n14 n15 n16 n17 n18 n19 n20 n21 n22 = refl

-- and does what it gives for its operands
pub pure_does : (s : Stores) (page : PageId) (o : Op) (args : List Val) → is_of_stores o ≡ false → operate s page o args ≡ with_mass s (apply o args s.mass)
pure_does s page op.Cookie args e = cc
pure_does s page op.SetCookie args e = cc
pure_does s page op.DelCookie args e = cc
pure_does s page op.SelfWindow args e = cc
pure_does s page op.Opener args e = cc
pure_does s page op.Live args e = cc
pure_does s page op.Url args e = cc
pure_does s page op.Page args e = cc
pure_does s page op.Window args e = cc
pure_does s page op.Open args e = cc
pure_does s page op.OpenNamed args e = cc
pure_does s page op.Go args e = cc
pure_does s page op.Close args e = cc
pure_does s page op.Kind args e = cc
pure_does s page op.Text args e = cc
pure_does s page op.SetText args e = cc
pure_does s page op.Count args e = cc
pure_does s page op.Child args e = cc
pure_does s page op.Find args e = cc
pure_does s page op.Nth args e = cc
pure_does s page op.Insert args e = cc
pure_does s page op.Listen args e = cc
pure_does s page op.Ask args e = cc
pure_does s page other args e = refl
