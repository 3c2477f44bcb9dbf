-- The packets that are written for a reply.
use Rattle.std.proofs.Common.{◌≡◌, ℕ, ◌<◌, ◌≤◌, List, Option, [], ◌∷◌, ◌++◌, length, map, drop, get_or, codes, suc, refl, sym, ap, ◌∙◌, append_assoc, length-append, arith, drop-cons}
use Rattle.gpkt.specs.Laws.{Fits}
use Rattle.gpkt.specs.Packets.{Packet, Data, Flush, line_feed}
use Rattle.gname.specs.Names.{max_name}
use Rattle.ggrammar.specs.Endings.{ends_with}
use Rattle.ggrammar.specs.Texts.{text_packet}
use Rattle.ggrammar.specs.declared.ends.Ends.{Ends}
use Rattle.glsreply.specs.RefTexts.{RefLine, unborn_text}
use Rattle.glsreply.specs.LsReplies.{LsReply, ref_packet, unborn_packets, canonical_reply}
use Rattle.std.proofs.lemmas.List.{drop_all}

pub unborn_line : (name : List ℕ) → Data (codes "unborn HEAD symref-target:" ++ (name ++ line_feed ∷ [])) ≡ text_packet (unborn_text name)
unfolding unborn_text
unborn_line name = refl

pub unborn_fits : (name : List ℕ) → length name ≤ max_name → Fits (Data (codes "unborn HEAD symref-target:" ++ (name ++ line_feed ∷ [])))
unborn_fits name short = let long = length-append name (line_feed ∷ []) in omega (arith, long, short)

-- the packets that remain to be written: the lines `lines` and the end of the reply
abbrev pub coming : Ends → List RefLine → List Packet
coming ends lines = map ref_packet lines ++ Flush ∷ ends_with ends

pub coming-line : (ends : Ends) (lines : List RefLine) (i : ℕ) (line : RefLine) → i < length lines → line ≡ get_or lines i line
    → coming ends (drop i lines) ≡ (ref_packet line ∷ []) ++ coming ends (drop (suc i) lines)
coming-line ends lines i line inside at =
    ap (coming ends) (drop-cons lines i line inside ∙ ap (λ (l : RefLine). l ∷ drop (suc i) lines) (sym at))

pub coming-end : (ends : Ends) (lines : List RefLine) (i : ℕ) → length lines ≤ i → coming ends (drop i lines) ≡ Flush ∷ ends_with ends
coming-end ends lines i past = ap (coming ends) (drop_all i lines past)

-- the packets of a reply: the line of an unborn HEAD, if there is one, and the packets after that line
pub reply_parts : (ends : Ends) (reply : LsReply) (unborn : Option (List ℕ)) → unborn ≡ reply.unborn
    → canonical_reply ends reply ≡ unborn_packets unborn ++ coming ends reply.lines
unfolding canonical_reply
reply_parts ends reply unborn e =
    append_assoc (unborn_packets reply.unborn) (map ref_packet reply.lines) (Flush ∷ ends_with ends)
    ∙ ap (λ (u : Option (List ℕ)). unborn_packets u ++ (map ref_packet reply.lines ++ Flush ∷ ends_with ends)) (sym e)
