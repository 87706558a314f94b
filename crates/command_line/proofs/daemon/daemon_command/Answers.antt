use Rattle.std.proofs.Common.{◌≡◌, ◌∙◌, ap, ap₂, codes, true}
use Rattle.std.proofs.lemmas.Result.{IfOk-weaker}
use Rattle.clap.specs.Simple.{app_of_fields}
use Rattle.clap.specs.Words.{app_of, new_app, with_rule}
use Rattle.command_line.specs.Daemon.{without_help}
use Rattle.command_line.proofs.daemon.daemon_command.Goals as goal

pub returns : goal.returns
returns c =
    let plain_is : app_of c.disable_version_flag.result ≡ without_help (new_app (codes "udfburnd")) =
    ap app_of_fields c.disable_version_flag.ensures ∙ ap (λ f. app_of_fields (record f { disable_version_flag = true })) c.disable_help_flag.ensures ∙ ap without_help c.new.ensures.app in
    IfOk-weaker c.arg-3.result _ _ (λ r h.
    h.shape c.option.ensures.local ∙ ap₂ with_rule (c.in_ok-arg-2.ensures.shape c.required-2.ensures.local ∙ ap₂ with_rule (c.in_ok-arg.ensures.shape c.required.ensures.local ∙ ap₂ with_rule plain_is c.required.ensures.rule) c.required-2.ensures.rule) c.option.ensures.rule) c.arg-3.ensures
