use Rattle.std.proofs.Common.{◌≡◌, ◌++◌, map, codes, IfOk, sym, ap, subst, ◌∙◌}
use Rattle.psc_externs_words.specs.Words as words
use Rattle.psc_externs_words.proofs.Appended.{more, last, apps-map}
use Rattle.psc_externs_words.proofs.words.+words.Goals as goal

pub put_before_type-returns : goal.put_before_type-returns
unfolding words.first
put_before_type-returns t c = last c.put_type.result c.args.out.now.items c.put_word.new.out.items c.put_type.new.out.items _ _ c.in_ok-put_word.ensures c.put_type.ensures

pub put_given-returns : goal.put_given-returns
unfolding words.first
put_given-returns t c = last c.put_constraint.result c.args.out.now.items c.put_word.new.out.items c.put_constraint.new.out.items _ _ c.in_ok-put_word.ensures c.put_constraint.ensures

pub put_constraint-returns : goal.put_constraint-returns
put_constraint-returns t c =
    let args = c.args.given.now.args in
    let out = c.args.out.now.items in
    let name = words.word (codes "con ") (words.qualified_text c.args.given.now.class) in
    let first : c.put_apps.new.out.items ≡ out ++ words.apps (map words.words args) =
    c.in_ok-put_apps.ensures ∙ ap (λ w. out ++ w) (ap (λ l. words.apps l) c.as_slice.ensures ∙ sym (apps-map words.words args)) in
    last c.put_types.result out c.put_name.new.out.items c.put_types.new.out.items (words.apps (map words.words args) ++ name) (words.concatenated (map words.words args))
    (more out c.put_apps.new.out.items c.put_name.new.out.items (words.apps (map words.words args)) name first c.in_ok-put_name.ensures)
    (subst (λ l. IfOk c.put_types.result (λ _. c.put_types.new.out.items ≡ c.put_name.new.out.items ++ words.concatenated (map words.words l))) c.as_slice-2.ensures c.put_types.ensures)
