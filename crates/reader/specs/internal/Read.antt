-- What the directory gives.
use Rattle.std.specs.Prelude.{List, ℕ, length}
use Rattle.refusals.specs.Refusals.{Reply, gives, refused}

-- The number of parts that the directory gives
abbrev pub directory_read : Reply (List (List ℕ)) → Reply ℕ
directory_read (gives parts) = gives (length parts)
directory_read (refused n) = refused n
