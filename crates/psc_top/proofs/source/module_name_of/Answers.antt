use Rattle.std.proofs.Common.{◌≡◌, true, chars, subst, IsSome, Option}
use Rattle.std.proofs.lemmas.Bool.{false≢true}
use Rattle.psc_text.specs.Letters.{is_module_name}
use Rattle.psc_text.specs.declared.module_name.ModuleName.{ModuleName}
use Rattle.psc_top.proofs.Letters.{module_word_ascii}
use Rattle.psc_top.proofs.ModuleWords.{module_word_is_name}
use Rattle.psc_top.proofs.source.module_name_of.Goals as goal

pub text_of-requires : goal.text_of-requires
text_of-requires c = module_word_ascii c.args.name.now c.requires

pub unreachable-requires : goal.unreachable-requires
unreachable-requires c =
    let named : is_module_name (chars c.text_of.result.now) ≡ true = rw c.text_of.ensures (module_word_is_name c.args.name.now c.requires) in
    false≢true (subst (λ (o : Option ModuleName). IsSome o) c.in-None.is (c.in_ok-module.ensures.exactly.1 named))
