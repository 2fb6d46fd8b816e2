-- The members of an interface file in two parts.
use Rattle.psc_externs.specs.declared.externs.Externs.{Externs}
use Rattle.psc_externs_text.specs.declared.text.First.{First}
use Rattle.psc_externs_text.specs.declared.text.Last.{Last}

abbrev pub first_of : Externs → First
first_of e = record { classes = e.classes; constructors = e.constructors; exports = e.exports; fixities = e.fixities; imports = e.imports }

abbrev pub last_of : Externs → Last
last_of e = record { instances = e.instances; «module» = e.«module»; synonyms = e.synonyms; types = e.types; values = e.values }

abbrev pub joined : First → Last → Externs
joined f l = record {
  classes = f.classes;
  constructors = f.constructors;
  exports = f.exports;
  fixities = f.fixities;
  imports = f.imports;
  instances = l.instances;
  «module» = l.«module»;
  synonyms = l.synonyms;
  types = l.types;
  values = l.values;
}
