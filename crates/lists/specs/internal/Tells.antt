-- What the result of a test tells.
use Rattle.std.specs.Prelude.{◌≡◌, Bool, true}

-- A test's result tells whether P holds
abbrev pub Tells : Bool → Type 0 → Type 0
Tells b P = (b ≡ true → P) × (P → b ≡ true)
