use Rattle.std.proofs.Common.{◌≡◌, ◌++◌, ℕ, List, suc, ◌+◌, take, arith, rules, sym, subst, string_bytes}
use Rattle.std.specs.List.{slice_get}
use Rattle.node_causes.specs.Explained.{AreOfNodes, IsOfNode}
use Rattle.node_causes.proofs.Saying.{next_paragraph}
use Rattle.node_causes.proofs.paragraphs.all_paragraphs.Goals as goal

pub loop-number-preserved : goal.loop-number-preserved
loop-number-preserved c =
    let number = c.loop-number.number in
    let nodes = c.args.replayed.now.machine.devices.nodes in
    let text = string_bytes c.loop-number.text in
    let one = string_bytes c.in_ok-paragraph.paragraph in
    let is : string_bytes c.push_str.new.self ≡ text ++ one = search rules in
    let of_one = subst (λ (k : ℕ). IsOfNode k (slice_get nodes number) one) (omega arith) c.in_ok-paragraph.ensures in
    let more : suc number ≡ number + 1 = omega arith in
    subst (λ (t : List ℕ). AreOfNodes 0 (take (number + 1) nodes) t) (sym is)
    (subst (λ (k : ℕ). AreOfNodes 0 (take k nodes) (text ++ one)) more
    (next_paragraph 0 number nodes text one c.loop-number.invariant of_one))

pub returns : goal.returns
returns c =
    let nodes = c.args.replayed.now.machine.devices.nodes in
    let eight : c.loop-number.number ≡ 8 = search rules in (
      string_bytes c.loop-number.text,
      string_bytes c.in_ok-alone.alone,
      subst (λ (k : ℕ). AreOfNodes 0 (take k nodes) (string_bytes c.loop-number.text)) eight c.loop-number.invariant,
      c.in_ok-alone.ensures,
      search rules,
    )
