use Rattle.std.proofs.Common.{◌≡◌, ap, subst, IfOk, string_bytes, option_map}
use Rattle.text_lines.proofs.Status.{status_plain, status_coded}
use Rattle.text_lines.proofs.frame.status.Goals as goal

pub returns-in-None : goal.returns-in-None
returns-in-None c = subst (λ xs. IfOk c.format.result (λ s. string_bytes s ≡ xs)) (status_plain c.args.revision c.args.place c.args.len (option_map (λ m. m.now) c.args.message) (ap (option_map (λ m. m.now)) c.in-None.is)) c.format.ensures.ok

pub returns-in-Some : goal.returns-in-Some
returns-in-Some c = subst (λ xs. IfOk c.format-in-Some.result (λ s. string_bytes s ≡ xs)) (status_coded c.args.revision c.args.place c.args.len (option_map (λ m. m.now) c.args.message) c.in-Some.code.now (ap (option_map (λ m. m.now)) c.in-Some.is)) c.format-in-Some.ensures.ok
