-- What reading words gives. No promise of a call cites this.
use Rattle.std.specs.Prelude.{List, [], ◌∷◌, Option as Maybe, None, Some}
use Rattle.query.specs.declared.Entry.{Entry}
use Rattle.query.specs.declared.Cell.{Cell}
use Rattle.format.specs.Format.{Reading, none, got}

-- An image that was read, if one was
abbrev pub image_read : Reading Cell → Maybe Entry
image_read none = None
image_read (got c rest) = Some c.entry

-- The images that words stand for, where no words are after them
abbrev pub mapping_read : Reading (List Cell) → Maybe (List Cell)
mapping_read none = None
mapping_read (got images []) = Some images
mapping_read (got images (word ∷ words)) = None
