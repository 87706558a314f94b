use Rattle.std.proofs.Common.{◌<◌, length, lit<, Some, None, sym, ◌∙◌, arith}
use Rattle.std.proofs.lemmas.Bool.{eqb-false}
use Rattle.std.proofs.lemmas.Str.Pattern.{strip_prefix_char}
use Rattle.request.proofs.PathTexts.{no_path_text, parsed, is_parts}
use Rattle.request.proofs.path.Path.parse.Goals as goal

pub returns-in_default-clause-only : goal.returns-in_default-clause-only
returns-in_default-clause-only c = λ e path good text-is.
    no_path_text c.args.text.now (strip_prefix_char 47 c.args.text.now None c.in_default.ensures.cases (lit< tt)) path text-is

pub returns-clause-found : goal.returns-clause-found
returns-clause-found c =
    let stripped = strip_prefix_char 47 c.args.text.now (Some c.in-Some.names) c.in-Some.ensures.cases (lit< tt) in
    parsed c.of_names.result c.args.text.now c.in-Some.names.now stripped c.of_names.ensures.found

pub returns-clause-only : goal.returns-clause-only
returns-clause-only c = λ e path good text-is.
    let names = c.in-Some.names.now in
    let stripped = strip_prefix_char 47 c.args.text.now (Some c.in-Some.names) c.in-Some.ensures.cases (lit< tt) in
    let apart = eqb-false (length names) 0 (sym c.if-is_empty.ensures) in
    let some : 0 < length names = omega (arith, apart) in
    c.of_names.ensures.only e (is_parts path names some good (sym stripped ∙ text-is))
