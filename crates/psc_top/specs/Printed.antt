-- Names as JavaScript has them.
use Rattle.std.specs.Prelude.{ℕ, List, [], ◌∷◌, ◌++◌, cond, codes, bytes_eq}
use Rattle.std.specs.List.{list_any}

-- the words that are no names there
abbrev pub reserved : List (List ℕ)
reserved =
    codes "abstract" ∷ codes "arguments" ∷ codes "await" ∷ codes "boolean" ∷ codes "break" ∷ codes "byte" ∷ codes "catch" ∷
    codes "char" ∷ codes "const" ∷ codes "continue" ∷ codes "debugger" ∷ codes "default" ∷ codes "delete" ∷ codes "double" ∷
    codes "enum" ∷ codes "eval" ∷ codes "export" ∷ codes "extends" ∷ codes "final" ∷ codes "finally" ∷ codes "float" ∷
    codes "for" ∷ codes "function" ∷ codes "goto" ∷ codes "implements" ∷ codes "instanceof" ∷ codes "int" ∷ codes "interface" ∷
    codes "long" ∷ codes "native" ∷ codes "new" ∷ codes "null" ∷ codes "package" ∷ codes "private" ∷ codes "protected" ∷
    codes "public" ∷ codes "return" ∷ codes "short" ∷ codes "static" ∷ codes "super" ∷ codes "switch" ∷ codes "synchronized" ∷
    codes "this" ∷ codes "throw" ∷ codes "throws" ∷ codes "transient" ∷ codes "try" ∷ codes "typeof" ∷ codes "undefined" ∷
    codes "var" ∷ codes "void" ∷ codes "volatile" ∷ codes "while" ∷ codes "with" ∷ codes "yield" ∷ codes "NaN" ∷
    codes "Infinity" ∷ codes "Error" ∷ []

-- a name of ASCII letters and digits stays as it is, but for a reserved word, which has `$$` before it
abbrev pub printed : List ℕ → List ℕ
printed name = cond (list_any (λ word. bytes_eq word name) reserved) (codes "$$" ++ name) name
