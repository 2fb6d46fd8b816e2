-- The JSON data of rows that keep what they should are read back from their text.
use Rattle.std.proofs.Common.{◌≡◌, ℕ, suc, ◌^◌, Bool, true, List, [], ◌∷◌, ◌++◌, map, codes, IsUtf8, refl, arith, ltb-true}
use Rattle.std.proofs.lemmas.Bool.{and_parts}
use Rattle.std.proofs.lemmas.Str.{IsUtf8-append, IsUtf8-from_is_utf8}
use Rattle.std.specs.List.{list_all}
use Rattle.std.specs.Str.{is_utf8, chars}
use Rattle.json.proofs.Printed.Utf8.{are_ascii, IsUtf8-are_ascii}
use Rattle.serde_json.specs.Data.{Data, string}
use Rattle.serde_json.specs.View.{items_of}
use Rattle.psc_text.specs.Letters.{is_module_name}
use Rattle.psc_text.specs.declared.span.Span.{Span}
use Rattle.psc_type.specs.declared.kind.Kind.{Kind}
use Rattle.psc_type.specs.declared.ty.Constraint.{Constraint}
use Rattle.psc_type.specs.declared.ty.Ty.{Ty}
use Rattle.psc_externs.specs.Names.{is_name}
use Rattle.psc_externs.specs.Entities.{space_of, text_of}
use Rattle.psc_externs.specs.Written.{is_extern_kind, is_extern_type, is_extern_constraint}
use Rattle.psc_externs.specs.declared.externs.Externs.{Externs}
use Rattle.psc_externs.specs.declared.name.TrueName.{TrueName}
use Rattle.psc_externs.specs.declared.places.DeclRow.{DeclRow}
use Rattle.psc_externs.specs.declared.places.Places.{Places}
use Rattle.psc_externs.specs.declared.places.UseRow.{UseRow}
use Rattle.psc_externs.specs.declared.rows.Assoc.{Assoc}
use Rattle.psc_externs.specs.declared.rows.Assoc.TheVariants as assoc
use Rattle.psc_externs.specs.declared.rows.ClassRow.{ClassRow}
use Rattle.psc_externs.specs.declared.rows.ConstructorRow.{ConstructorRow}
use Rattle.psc_externs.specs.declared.rows.Dependency.{Dependency}
use Rattle.psc_externs.specs.declared.rows.Entity.{Entity}
use Rattle.psc_externs.specs.declared.rows.Entity.TheVariants as entity
use Rattle.psc_externs.specs.declared.rows.ExportRow.{ExportRow}
use Rattle.psc_externs.specs.declared.rows.FixityRow.{FixityRow}
use Rattle.psc_externs.specs.declared.rows.InstanceRow.{InstanceRow}
use Rattle.psc_externs.specs.declared.rows.OpSpace.{OpSpace}
use Rattle.psc_externs.specs.declared.rows.OpSpace.TheVariants as op
use Rattle.psc_externs.specs.declared.rows.Param.{Param}
use Rattle.psc_externs.specs.declared.rows.Space.{Space}
use Rattle.psc_externs.specs.declared.rows.Space.TheVariants as space
use Rattle.psc_externs.specs.declared.rows.SynonymRow.{SynonymRow}
use Rattle.psc_externs.specs.declared.rows.TypeRow.{TypeRow}
use Rattle.psc_externs.specs.declared.rows.ValueRow.{ValueRow}
use Rattle.psc_externs_rows.specs.Kept.{keeps_name, keeps_module, keeps_op, keeps_true_name, keeps_count, keeps_byte, keeps_kind, keeps_type, keeps_constraint, keeps_entity, keeps_param, keeps_dependency, keeps_class, keeps_constructor, keeps_export, keeps_fixity, keeps_instance, keeps_synonym, keeps_type_row, keeps_value, keeps_span, keeps_decl, keeps_use, is_interface, are_places}
use Rattle.psc_externs_rows.specs.Rows.{count, list_of, kind, type_of, constraint, true_name_text, assoc_text, op_space_text, space_text, param, dependency, class_row, constructor_row, export_row, fixity_row, instance_row, synonym_row, type_row, value_row, span, decl_row, use_row}
use Rattle.psc_externs_text.specs.Texts.{externs, places}
use Rattle.psc_externs_words.specs.Words.{kind_words, words, constraint_words}
use Rattle.psc_externs_text.proofs.Laid.{IsLaid, AreLaid}

laid_items : {A : Type 0} (f : A → Data) (keeps : A → Bool) (n : ℕ) → ((x : A) → keeps x ≡ true → IsLaid n (f x)) → (xs : List A) → list_all keeps xs ≡ true → AreLaid n (items_of (map f xs))
laid_items f keeps n h [] k = tt
laid_items f keeps n h (x ∷ xs) k = let p = and_parts (keeps x) (list_all keeps xs) k in (h x p.0, laid_items f keeps n h xs p.1)

laid_list : {A : Type 0} (f : A → Data) (keeps : A → Bool) (n : ℕ) → ((x : A) → keeps x ≡ true → IsLaid n (f x)) → (xs : List A) → list_all keeps xs ≡ true → IsLaid (suc n) (list_of f xs)
laid_list f keeps n h xs k = laid_items f keeps n h xs k

key : (s : List ℕ) → are_ascii s ≡ true → IsUtf8 s
key s h = IsUtf8-are_ascii s h

text : (n : ℕ) (s : List ℕ) → is_utf8 s ≡ true → IsLaid n (string s)
text n s h = IsUtf8-from_is_utf8 s h

name_utf8 : (s : List ℕ) → keeps_name s ≡ true → IsUtf8 s
name_utf8 s h = IsUtf8-from_is_utf8 s (and_parts (is_utf8 s) (is_name s) h).0

name : (n : ℕ) (s : List ℕ) → keeps_name s ≡ true → IsLaid n (string s)
name n s h = name_utf8 s h

module_utf8 : (s : List ℕ) → keeps_module s ≡ true → IsUtf8 s
module_utf8 s h = IsUtf8-from_is_utf8 s (and_parts (is_utf8 s) (is_module_name (chars s)) h).0

module_name : (n : ℕ) (s : List ℕ) → keeps_module s ≡ true → IsLaid n (string s)
module_name n s h = module_utf8 s h

true_name_laid : (n : ℕ) (t : TrueName) → keeps_true_name t ≡ true → IsLaid n (string (true_name_text t))
true_name_laid n t h =
    let p = and_parts (keeps_module t.«module») (keeps_name t.name) h in
    IsUtf8-append t.«module» (codes "." ++ t.name) (module_utf8 t.«module» p.0) (IsUtf8-append (codes ".") t.name (IsUtf8-are_ascii (codes ".") refl) (name_utf8 t.name p.1))

count_laid : (n x : ℕ) → keeps_count x ≡ true → IsLaid n (count x)
count_laid n x h = omega (arith, ltb-true x (2 ^ 32) h)

byte_laid : (n x : ℕ) → keeps_byte x ≡ true → IsLaid n (count x)
byte_laid n x h = omega (arith, ltb-true x (2 ^ 8) h)

assoc_laid : (n : ℕ) (a : Assoc) → IsLaid n (string (assoc_text a))
assoc_laid n assoc.Infix = IsUtf8-are_ascii (codes "infix") refl
assoc_laid n assoc.Infixl = IsUtf8-are_ascii (codes "infixl") refl
assoc_laid n assoc.Infixr = IsUtf8-are_ascii (codes "infixr") refl

op_space_laid : (n : ℕ) (s : OpSpace) → IsLaid n (string (op_space_text s))
op_space_laid n op.TypeOp = IsUtf8-are_ascii (codes "typeop") refl
op_space_laid n op.ValueOp = IsUtf8-are_ascii (codes "valueop") refl

space_laid : (n : ℕ) (s : Space) → IsLaid n (string (space_text s))
space_laid n space.Constructor = IsUtf8-are_ascii (codes "constructor") refl
space_laid n space.XType = IsUtf8-are_ascii (codes "type") refl
space_laid n space.TypeOp = IsUtf8-are_ascii (codes "typeop") refl
space_laid n space.Value = IsUtf8-are_ascii (codes "value") refl
space_laid n space.ValueOp = IsUtf8-are_ascii (codes "valueop") refl

entity_laid : (n : ℕ) (e : Entity) → keeps_entity e ≡ true → IsLaid n (string (text_of e))
entity_laid n (entity.Constructor s) h = name_utf8 s h
entity_laid n (entity.XType s) h = name_utf8 s h
entity_laid n (entity.TypeOp s) h = IsUtf8-from_is_utf8 s.0 h
entity_laid n (entity.Value s) h = name_utf8 s h
entity_laid n (entity.ValueOp s) h = IsUtf8-from_is_utf8 s.0 h

kind_laid : (n : ℕ) (k : Kind) → keeps_kind k ≡ true → IsLaid (suc n) (kind k)
kind_laid n k h = laid_list string is_utf8 n (text n) (kind_words k) (and_parts (is_extern_kind k) (list_all is_utf8 (kind_words k)) h).1

type_laid : (n : ℕ) (t : Ty) → keeps_type t ≡ true → IsLaid (suc n) (type_of t)
type_laid n t h = laid_list string is_utf8 n (text n) (words t) (and_parts (is_extern_type t) (list_all is_utf8 (words t)) h).1

constraint_laid : (n : ℕ) (c : Constraint) → keeps_constraint c ≡ true → IsLaid (suc n) (constraint c)
constraint_laid n c h = laid_list string is_utf8 n (text n) (constraint_words c) (and_parts (is_extern_constraint c) (list_all is_utf8 (constraint_words c)) h).1

param_laid : (n : ℕ) (p : Param) → keeps_param p ≡ true → IsLaid (suc (suc n)) (param p)
param_laid n p h = let q = and_parts (keeps_name p.name) (keeps_kind p.kind) h in (name_utf8 p.name q.0, (kind_laid n p.kind q.1, tt))

dependency_laid : (n : ℕ) (d : Dependency) → keeps_dependency d ≡ true → IsLaid (suc (suc n)) (dependency d)
dependency_laid n d h =
    let p = and_parts (list_all keeps_count d.determining) (list_all keeps_count d.determined) h in
    (laid_list count keeps_count n (count_laid n) d.determining p.0, (laid_list count keeps_count n (count_laid n) d.determined p.1, tt))

-- ---- rows, four deep

class_laid : (n : ℕ) (r : ClassRow) → keeps_class r ≡ true → IsLaid (suc (suc (suc (suc n)))) (class_row r)
class_laid n r h =
    let a = and_parts (list_all keeps_dependency r.deps) _ h in
    let b = and_parts (list_all keeps_name r.members) _ a.1 in
    let c = and_parts (keeps_name r.name) _ b.1 in
    let d = and_parts (list_all keeps_param r.params) (list_all keeps_constraint r.supers) c.1 in (
      refl,
      (
        key (codes "deps") refl,
        laid_list dependency keeps_dependency (suc (suc n)) (dependency_laid n) r.deps a.0,
        (
          key (codes "members") refl,
          laid_list string keeps_name (suc (suc n)) (name (suc (suc n))) r.members b.0,
          (
            key (codes "name") refl,
            name_utf8 r.name c.0,
            (
              key (codes "params") refl,
              laid_list param keeps_param (suc (suc n)) (param_laid n) r.params d.0,
              (key (codes "supers") refl, laid_list constraint keeps_constraint (suc (suc n)) (constraint_laid (suc n)) r.supers d.1, tt),
            ),
          ),
        ),
      ),
    )

constructor_laid : (n : ℕ) (r : ConstructorRow) → keeps_constructor r ≡ true → IsLaid (suc (suc (suc (suc n)))) (constructor_row r)
constructor_laid n r h =
    let a = and_parts (keeps_name r.name) _ h in
    let b = and_parts (keeps_name r.parent) (keeps_type r.x_type) a.1 in (
      refl,
      (key (codes "name") refl, name_utf8 r.name a.0, (key (codes "parent") refl, name_utf8 r.parent b.0, (key (codes "type") refl, type_laid (suc (suc n)) r.x_type b.1, tt))),
    )

export_laid : (n : ℕ) (r : ExportRow) → keeps_export r ≡ true → IsLaid (suc (suc (suc (suc n)))) (export_row r)
export_laid n r h =
    let a = and_parts (keeps_entity r.entity) (keeps_module r.«module») h in
    (space_laid n (space_of r.entity), (entity_laid n r.entity a.0, (module_utf8 r.«module» a.1, tt)))

fixity_laid : (n : ℕ) (r : FixityRow) → keeps_fixity r ≡ true → IsLaid (suc (suc (suc (suc n)))) (fixity_row r)
fixity_laid n r h =
    let a = and_parts (keeps_op r.op) _ h in
    let b = and_parts (keeps_byte r.precedence) (keeps_true_name r.target) a.1 in (
      refl,
      (
        key (codes "assoc") refl,
        assoc_laid n r.assoc,
        (
          key (codes "op") refl,
          IsUtf8-from_is_utf8 r.op.0 a.0,
          (
            key (codes "precedence") refl,
            byte_laid n r.precedence b.0,
            (key (codes "space") refl, op_space_laid n r.space, (key (codes "target") refl, true_name_laid n r.target b.1, tt)),
          ),
        ),
      ),
    )

instance_laid : (n : ℕ) (r : InstanceRow) → keeps_instance r ≡ true → IsLaid (suc (suc (suc (suc n)))) (instance_row r)
instance_laid n r h =
    let a = and_parts (keeps_name r.chain) _ h in
    let b = and_parts (keeps_true_name r.class) _ a.1 in
    let c = and_parts (list_all keeps_constraint r.context) _ b.1 in
    let d = and_parts (list_all keeps_type r.head) _ c.1 in
    let e = and_parts (keeps_count r.index) _ d.1 in
    let f = and_parts (keeps_name r.name) (list_all keeps_name r.vars) e.1 in (
      refl,
      (
        key (codes "chain") refl,
        name_utf8 r.chain a.0,
        (
          key (codes "class") refl,
          true_name_laid n r.class b.0,
          (
            key (codes "context") refl,
            laid_list constraint keeps_constraint (suc (suc n)) (constraint_laid (suc n)) r.context c.0,
            (
              key (codes "head") refl,
              laid_list type_of keeps_type (suc (suc n)) (type_laid (suc n)) r.head d.0,
              (
                key (codes "index") refl,
                count_laid n r.index e.0,
                (key (codes "name") refl, name_utf8 r.name f.0, (key (codes "vars") refl, laid_list string keeps_name (suc (suc n)) (name (suc (suc n))) r.vars f.1, tt)),
              ),
            ),
          ),
        ),
      ),
    )

synonym_laid : (n : ℕ) (r : SynonymRow) → keeps_synonym r ≡ true → IsLaid (suc (suc (suc (suc n)))) (synonym_row r)
synonym_laid n r h =
    let a = and_parts (keeps_type r.body) _ h in
    let b = and_parts (keeps_name r.name) (list_all keeps_param r.params) a.1 in (
      refl,
      (
        key (codes "body") refl,
        type_laid (suc (suc n)) r.body a.0,
        (key (codes "name") refl, name_utf8 r.name b.0, (key (codes "params") refl, laid_list param keeps_param (suc (suc n)) (param_laid n) r.params b.1, tt)),
      ),
    )

type_row_laid : (n : ℕ) (r : TypeRow) → keeps_type_row r ≡ true → IsLaid (suc (suc (suc (suc n)))) (type_row r)
type_row_laid n r h =
    let a = and_parts (list_all keeps_name r.constructors) _ h in
    let b = and_parts (keeps_kind r.kind) (keeps_name r.name) a.1 in (
      refl,
      (
        key (codes "constructors") refl,
        laid_list string keeps_name (suc (suc n)) (name (suc (suc n))) r.constructors a.0,
        (key (codes "kind") refl, kind_laid (suc (suc n)) r.kind b.0, (key (codes "name") refl, name_utf8 r.name b.1, (key (codes "newtype") refl, tt, tt))),
      ),
    )

value_laid : (n : ℕ) (r : ValueRow) → keeps_value r ≡ true → IsLaid (suc (suc (suc (suc n)))) (value_row r)
value_laid n r h =
    let a = and_parts (keeps_name r.name) (keeps_type r.x_type) h in
    (refl, (key (codes "name") refl, name_utf8 r.name a.0, (key (codes "type") refl, type_laid (suc (suc n)) r.x_type a.1, tt)))

span_laid : (n : ℕ) (s : Span) → keeps_span s ≡ true → IsLaid (suc n) (span s)
span_laid n s h =
    let a = and_parts (keeps_count s.line) _ h in
    let b = and_parts (keeps_count s.column) _ a.1 in
    let c = and_parts (keeps_count s.end_line) (keeps_count s.end_column) b.1 in
    (count_laid n s.line a.0, (count_laid n s.column b.0, (count_laid n s.end_line c.0, (count_laid n s.end_column c.1, tt))))

decl_laid : (n : ℕ) (r : DeclRow) → keeps_decl r ≡ true → IsLaid (suc (suc n)) (decl_row r)
decl_laid n r h =
    let a = and_parts (keeps_entity r.entity) (keeps_span r.span) h in
    (refl, (key (codes "name") refl, entity_laid n r.entity a.0, (key (codes "space") refl, space_laid n (space_of r.entity), (key (codes "span") refl, span_laid n r.span a.1, tt))))

use_laid : (n : ℕ) (r : UseRow) → keeps_use r ≡ true → IsLaid (suc (suc n)) (use_row r)
use_laid n r h =
    let a = and_parts (keeps_module r.«module») _ h in
    let b = and_parts (keeps_entity r.entity) (keeps_span r.span) a.1 in (
      refl,
      (
        key (codes "module") refl,
        module_utf8 r.«module» a.0,
        (key (codes "name") refl, entity_laid n r.entity b.0, (key (codes "space") refl, space_laid n (space_of r.entity), (key (codes "span") refl, span_laid n r.span b.1, tt))),
      ),
    )

-- ---- whole files

pub externs_laid : (n : ℕ) (e : Externs) → is_interface e ≡ true → IsLaid (suc (suc (suc (suc (suc (suc n)))))) (externs e)
externs_laid n x h =
    let m = suc (suc (suc (suc n))) in
    let a = and_parts (list_all keeps_class x.classes) _ h in
    let b = and_parts (list_all keeps_constructor x.constructors) _ a.1 in
    let c = and_parts (list_all keeps_export x.exports) _ b.1 in
    let d = and_parts (list_all keeps_fixity x.fixities) _ c.1 in
    let e = and_parts (list_all keeps_module x.imports) _ d.1 in
    let f = and_parts (list_all keeps_instance x.instances) _ e.1 in
    let g = and_parts (keeps_module x.«module») _ f.1 in
    let i = and_parts (list_all keeps_synonym x.synonyms) _ g.1 in
    let j = and_parts (list_all keeps_type_row x.types) (list_all keeps_value x.values) i.1 in (
      refl,
      (
        key (codes "classes") refl,
        laid_list class_row keeps_class m (class_laid n) x.classes a.0,
        (
          key (codes "constructors") refl,
          laid_list constructor_row keeps_constructor m (constructor_laid n) x.constructors b.0,
          (
            key (codes "exports") refl,
            laid_list export_row keeps_export m (export_laid n) x.exports c.0,
            (
              key (codes "fixities") refl,
              laid_list fixity_row keeps_fixity m (fixity_laid n) x.fixities d.0,
              (
                key (codes "imports") refl,
                laid_list string keeps_module m (module_name m) x.imports e.0,
                (
                  key (codes "instances") refl,
                  laid_list instance_row keeps_instance m (instance_laid n) x.instances f.0,
                  (
                    key (codes "module") refl,
                    module_utf8 x.«module» g.0,
                    (
                      key (codes "synonyms") refl,
                      laid_list synonym_row keeps_synonym m (synonym_laid n) x.synonyms i.0,
                      (
                        key (codes "types") refl,
                        laid_list type_row keeps_type_row m (type_row_laid n) x.types j.0,
                        (key (codes "values") refl, laid_list value_row keeps_value m (value_laid n) x.values j.1, (key (codes "version") refl, count_laid n 1 refl, tt)),
                      ),
                    ),
                  ),
                ),
              ),
            ),
          ),
        ),
      ),
    )

pub places_laid : (n : ℕ) (p : Places) → are_places p ≡ true → IsLaid (suc (suc (suc (suc n)))) (places p)
places_laid n p h =
    let m = suc (suc n) in
    let a = and_parts (list_all keeps_decl p.decls) _ h in
    let b = and_parts (keeps_module p.«module») (list_all keeps_use p.uses) a.1 in (
      refl,
      (
        key (codes "decls") refl,
        laid_list decl_row keeps_decl m (decl_laid n) p.decls a.0,
        (
          key (codes "module") refl,
          module_utf8 p.«module» b.0,
          (key (codes "uses") refl, laid_list use_row keeps_use m (use_laid n) p.uses b.1, (key (codes "version") refl, count_laid n 1 refl, tt)),
        ),
      ),
    )
