-- The texts of interface files and of places.
use Rattle.std.specs.Prelude.{ℕ, List, codes}
use Rattle.serde_json.specs.Data.{Data, string, object, no_members, member}
use Rattle.serde_json.specs.Written.{compact_text}
use Rattle.psc_externs.specs.declared.externs.Externs.{Externs}
use Rattle.psc_externs.specs.declared.places.Places.{Places}
use Rattle.psc_externs_rows.specs.Rows.{count, list_of, class_row, constructor_row, export_row, fixity_row, instance_row, synonym_row, type_row, value_row, decl_row, use_row}

-- the members in the order of their names
abbrev pub externs_parts : Data → Data → Data → Data → Data → Data → List ℕ → Data → Data → Data → Data
externs_parts classes constructors exports fixities imports instances m synonyms types values = object (member (codes "classes") classes (member (codes "constructors") constructors (member (codes "exports") exports (member (codes "fixities") fixities (member (codes "imports") imports (member (codes "instances") instances (member (codes "module") (string m) (member (codes "synonyms") synonyms (member (codes "types") types (member (codes "values") values (member (codes "version") (count 1) no_members)))))))))))

abbrev pub externs : Externs → Data
externs e = externs_parts (list_of class_row e.classes) (list_of constructor_row e.constructors) (list_of export_row e.exports) (list_of fixity_row e.fixities) (list_of string e.imports) (list_of instance_row e.instances) e.«module» (list_of synonym_row e.synonyms) (list_of type_row e.types) (list_of value_row e.values)

abbrev pub places_parts : Data → List ℕ → Data → Data
places_parts decls m uses = object (member (codes "decls") decls (member (codes "module") (string m) (member (codes "uses") uses (member (codes "version") (count 1) no_members))))

abbrev pub places : Places → Data
places p = places_parts (list_of decl_row p.decls) p.«module» (list_of use_row p.uses)

-- JSON without blanks
abbrev pub externs_text : Externs → List ℕ
externs_text e = compact_text (externs e)

abbrev pub places_text : Places → List ℕ
places_text p = compact_text (places p)
