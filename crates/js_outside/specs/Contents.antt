-- A finite map of files as a list: the name's UTF-8 bytes, then the file's bytes.
use Rattle.std.specs.Prelude.{ℕ, zero, suc, List, [], ◌∷◌, Option, None, Some, if◌then◌else◌}
use Rattle.std.specs.Cmp.Lexicographic.{slice_cmp}
use Rattle.std.specs.Ordering.{nat_cmp, is_gt}
use Rattle.std.specs.Str.{bytes_eq}
use Rattle.std.specs.BTreeMap.{insert_entry}

-- files by their names
abbrev pub Entries : Type 0
Entries = List (List ℕ × List ℕ)

-- the bytes of the file of that name
abbrev pub contents : Entries → List ℕ → Option (List ℕ)
contents [] name = None
contents (file ∷ files) name = if bytes_eq name file.0 then Some file.1 else contents files name

-- the bytes of the file at a place, none past the end
abbrev pub bytes_at : Entries → ℕ → List ℕ
bytes_at [] place = []
bytes_at (file ∷ files) zero = file.1
bytes_at (file ∷ files) (suc place) = bytes_at files place

-- the map with one file set, in the order of the names
abbrev pub with_file : Entries → List ℕ → List ℕ → Entries
with_file files name bytes = insert_entry (slice_cmp nat_cmp) files name bytes

-- how many names come before `name`
abbrev pub place_of : Entries → List ℕ → ℕ
place_of [] name = 0
place_of (file ∷ files) name = if is_gt (slice_cmp nat_cmp name file.0) then suc (place_of files name) else 0
