-- What a call answers, where it may find no memory.
use Rattle.std.specs.Prelude.{◌≡◌, ◌⊎◌}

-- the result is this answer, or it is the one that says that there was no memory
abbrev pub Answers : {A : Type 0} (result answer no_memory : A) → Type 0
Answers result answer no_memory = (result ≡ answer) ⊎ (result ≡ no_memory)
