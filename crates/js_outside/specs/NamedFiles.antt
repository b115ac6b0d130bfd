-- What a named file stands for.
use Rattle.std.specs.Prelude.{ℕ, List, encode_utf8_all}
use Rattle.js_outside.specs.declared.files.NamedFile.{NamedFile}

-- the UTF-8 bytes of its name, and its bytes
abbrev pub entry_of : NamedFile → List ℕ × List ℕ
entry_of file = (encode_utf8_all file.name, file.bytes.items)
