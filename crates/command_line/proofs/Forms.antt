-- What `clap` is told of a command, word by word.
use Rattle.std.proofs.Common.{◌≡◌, ◌∙◌, ◌+◌, ◌<◌, ℕ, Bool, true, false, List, [], ◌∷◌, ◌++◌, Some, ap, ap₂, get_or, length, refl, subst, sym, take}
use Rattle.std.specs.Prelude.{◌||◌, map}
use Rattle.std.proofs.lemmas.List.{append_assoc, take_more}
use Rattle.std.specs.Borrow.{Bor}
use Rattle.clap.specs.Words.{AddsArg, Rule, Text, app_of, new_rule, rule_of, with_rule}
use Rattle.clap.specs.declared.builder.command.Command.TheViews.{out-Command as fields_of}
use Rattle.clap.specs.Simple.{new_shape}
use Rattle.clap.specs.declared.builder.arg.Arg.{Arg}
use Rattle.clap.specs.declared.builder.command.Command.{Command}
use Rattle.command_line.specs.Forms.{named_word, needed_word}

-- a command of this name has these words, and none that is also another command's
pub record IsTold (name : Text) (rules : List Rule) (command : Command) : Type 0 where
  pub app : app_of command ≡ record { top = record (new_shape name) { rules = rules }; subs = [] }
  pub local : (fields_of command).has_globals ≡ false

-- one more word
pub told_more : (name : Text) (rules : List Rule) (rule : Rule) (old new : Command) (word : Arg) → IsTold name rules old → AddsArg old word new
    → rule_of word ≡ rule → word.global ≡ false → IsTold name (rules ++ rule ∷ []) new
told_more name rules rule old new word told adds is here = record {
  app = adds.shape here ∙ ap₂ with_rule told.app is;
  local = adds.globals ∙ ap₂ (λ (p q : Bool). p || q) told.local here;
}

-- ---- a word that must be given

pub needed : (id : Text) (fresh word : Arg) → word ≡ record fresh { required = true } → rule_of fresh ≡ new_rule id → rule_of word ≡ needed_word id
needed id fresh word is rule = ap rule_of is ∙ ap (λ (r : Rule). record r { required = true }) rule

-- it is no subcommand's
pub needed_here : (fresh word : Arg) → word ≡ record fresh { required = true } → fresh.global ≡ false → word.global ≡ false
needed_here fresh word is here = ap (λ (a : Arg). a.global) is ∙ here

-- ---- a word that may be given behind its name

pub named : (id : Text) (fresh word : Arg) (name : Bor Text) → name.now ≡ id → word ≡ record fresh { long = Some name } → rule_of fresh ≡ new_rule id → rule_of word ≡ named_word id
named id fresh word name same is rule = ap rule_of is ∙ (λ i. record (rule i) { long = Some (same i) })

pub named_here : (fresh word : Arg) (name : Bor Text) → word ≡ record fresh { long = Some name } → fresh.global ≡ false → word.global ≡ false
named_here fresh word name is here = ap (λ (a : Arg). a.global) is ∙ here

-- ---- words one after the other

mapped_push : (rule : Text → Rule) (ids : List (Bor Text)) (id : Bor Text) → map rule (map (λ (d : Bor Text). d.now) (ids ++ id ∷ [])) ≡ map rule (map (λ (d : Bor Text). d.now) ids) ++ rule id.now ∷ []
mapped_push rule [] id = refl
mapped_push rule (d ∷ ids) id = ap (λ (rs : List Rule). rule d.now ∷ rs) (mapped_push rule ids id)

-- the words up to this one, and one more
pub told_next : (name : Text) (front : List Rule) (rule : Text → Rule) (ids : List (Bor Text)) (i : ℕ) (id : Bor Text) (old new : Command) (word : Arg) → i < length ids
    → IsTold name (front ++ map rule (map (λ (d : Bor Text). d.now) (take i ids))) old → AddsArg old word new → rule_of word ≡ rule (get_or ids i id).now → word.global ≡ false
    → IsTold name (front ++ map rule (map (λ (d : Bor Text). d.now) (take (i + 1) ids))) new
told_next name front rule ids i id old new word within told adds is here =
    let more = take_more ids i id within in
    let all : front ++ map rule (map (λ (d : Bor Text). d.now) (take i ids)) ++ rule (get_or ids i id).now ∷ [] ≡ front ++ map rule (map (λ (d : Bor Text). d.now) (take (i + 1) ids)) =
    append_assoc front (map rule (map (λ (d : Bor Text). d.now) (take i ids))) (rule (get_or ids i id).now ∷ [])
    ∙ ap (λ (rs : List Rule). front ++ rs) (sym (ap (λ (ds : List (Bor Text)). map rule (map (λ (d : Bor Text). d.now) ds)) more ∙ mapped_push rule (take i ids) (get_or ids i id))) in
    subst (λ (rs : List Rule). IsTold name rs new) all (told_more name (front ++ map rule (map (λ (d : Bor Text). d.now) (take i ids))) (rule (get_or ids i id).now) old new word told adds is here)
