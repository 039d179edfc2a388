use Rattle.doc_tree.proofs.Words.{ap, local_part, refl, view, ◌∙◌, ◌∷◌}
use Rattle.doc_tree.proofs.MachineSteps.{reverse_push, tag_opens}
use Rattle.doc_tree.proofs.machine.Machine.tag_opens.Goals as goal

pub returns : goal.returns
returns c = tag_opens (view c.args.self.now) _ _ _ _ _ _ refl (reverse_push (λ v. v.items) c.push.new.self.items c.args.self.now.names.items _ c.in_ok-push.ensures.items ∙ ap (λ z. z.items ∷ (view c.args.self.now).names) c.replace-name.ensures.value) (c.local_part.ensures ∙ ap local_part c.as_slice.ensures.value) c.in_ok-open.ensures.says c.in_ok-open.ensures.waits c.requires
