-- Lists that another one begins with.
use Rattle.std.proofs.Common.{List, [], ◌++◌, ℕ, refl, ap, ◌∙◌, append-nil, append_assoc}
use Rattle.ff_io.specs.Fronts.{IsFront, IsProperFront}

-- nothing begins every list
pub IsFront-nil : (whole : List ℕ) → IsFront [] whole
IsFront-nil whole = record { rest = whole; joined = refl }

-- a list begins itself
pub IsFront-self : (whole : List ℕ) → IsFront whole whole
IsFront-self whole = record { rest = []; joined = append-nil whole }

-- the same after what stands before both
pub IsFront-append : (before front whole : List ℕ) → IsFront front whole → IsFront (before ++ front) (before ++ whole)
IsFront-append before front whole part = record {
  rest = part.rest;
  joined = append_assoc before front part.rest ∙ ap (λ l. before ++ l) part.joined;
}

pub IsProperFront-append : (before front whole : List ℕ) → IsProperFront front whole → IsProperFront (before ++ front) (before ++ whole)
IsProperFront-append before front whole part = record {
  rest = part.rest;
  more = part.more;
  joined = append_assoc before front part.rest ∙ ap (λ l. before ++ l) part.joined;
}
