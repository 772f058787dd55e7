-- One byte more, after the others: how `VirtualSwitch` counts its changes byte by byte, for the clauses `left` of
-- `feed_all` and `kept` of `feed` and `clear`.
use Rattle.std.proofs.Common.{◌≡◌, ℕ, List, [], ◌∷◌, ◌++◌, refl, sym, subst}
use Rattle.std.specs.List.{AllZip}
use Rattle.crossbar.specs.declared.word.Word.{Word}
use Rattle.crossbar.specs.Laws.{UnchangedCountsNothing}
use Rattle.crossbar.specs.Word.{CountsChange}
use Rattle.virtual_switch.specs.declared.reply.ConfigReply.{ConfigReply}
use Rattle.virtual_switch.specs.SwitchValue.{SwitchValue}
use Rattle.virtual_switch.specs.Each.{switch_fed, IsFed, AreFed, ConfiguresTo, KeepsPorts}

fed_more : (old mid : SwitchValue) (bytes : List ℕ) (byte : ℕ)
    → AreFed old bytes mid → IsFed mid byte (switch_fed mid byte)
    → AreFed old (bytes ++ byte ∷ []) (switch_fed mid byte)
fed_more old mid [] byte same is =
    subst (λ (s : SwitchValue). AreFed s (byte ∷ []) (switch_fed mid byte)) same (is, refl)
fed_more old mid (first ∷ bytes) byte are is = (are.0, fed_more (switch_fed old first) mid bytes byte are.1 is)

-- without bytes the switch stays the same
pub none_fed_at : (old new : SwitchValue) (bytes : List ℕ) → bytes ≡ [] → new ≡ old → AreFed old bytes new
none_fed_at old new bytes none same = subst (λ bs. AreFed old bs new) (sym none) same

-- if bytes lead to a switch, and the next byte leaves the ports and counts its changes, all of them lead on
pub more_fed_at : (old mid new : SwitchValue) (bytes more : List ℕ) (byte : ℕ) (reply : ConfigReply)
    → AreFed old bytes mid
    → new ≡ switch_fed mid byte → ConfiguresTo mid byte reply new → KeepsPorts mid new
    → more ≡ bytes ++ byte ∷ [] → AreFed old more new
more_fed_at old mid new bytes more byte reply are left step kept more_is =
    subst (λ bs. AreFed old bs new) (sym more_is)
    (subst (AreFed old (bytes ++ byte ∷ [])) (sym left)
    (fed_more old mid bytes byte are (subst (IsFed mid byte) left ((reply, step), kept))))

-- a switch whose words count their changes keeps its ports, as the value that its fields stand for
pub changed_seen : (view seen new : SwitchValue)
    → view ≡ seen → new.ports ≡ view.ports → AllZip CountsChange view.words new.words
    → KeepsPorts seen new
changed_seen view seen new same ports counts =
    subst (λ (s : SwitchValue). KeepsPorts s new) same (record { ports = ports; counts = counts })

-- the same of one whose words stay
pub kept_seen : UnchangedCountsNothing → (view seen new : SwitchValue) → view ≡ seen → new.ports ≡ view.ports
    → new.words ≡ view.words
    → KeepsPorts seen new
kept_seen unchanged view seen new same ports words =
    changed_seen view seen new same ports
    (subst (λ (ws : List Word). AllZip CountsChange view.words ws) (sym words) (unchanged view.words))
