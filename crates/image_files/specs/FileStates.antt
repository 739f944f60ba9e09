-- What is found of a file.
use Rattle.std.specs.Prelude.{◌≡◌}
use Rattle.image_files.specs.declared.file_state.FileState.{FileState}

-- it is that file, with the size and the time of its last change that it had then
pub record HasBytesOf (now then : FileState) : Type 0 where
  pub device : now.device ≡ then.device
  pub inode : now.inode ≡ then.inode
  pub size : now.size ≡ then.size
  pub modified : now.modified ≡ then.modified
