-- What it is for some bytes to fit into a buffer from a position on, and to have been written there.
use Rattle.std.specs.Prelude.{◌≡◌, List, ℕ, ◌+◌, ◌≤◌, length}
use Rattle.lists.specs.Over.{over}

-- The bytes fit into the buffer from the position on
pub record Fits (buffer : List ℕ) (at : ℕ) (bytes : List ℕ) : Type 0 where
  pub room : at + length bytes ≤ length buffer

-- The buffer after is the one before with the bytes over it from the position on, and next is the position after them
pub record WrittenAt (before : List ℕ) (at : ℕ) (bytes after : List ℕ) (next : ℕ) : Type 0 where
  pub buffer : after ≡ over before at bytes
  pub position : next ≡ at + length bytes
