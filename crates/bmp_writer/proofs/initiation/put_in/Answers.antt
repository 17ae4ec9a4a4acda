use Rattle.std.proofs.Common.{ℕ, List, ◌++◌, ap, ◌∙◌, arith}
use Rattle.std.proofs.lemmas.Result.{on_ok_weaker}
use Rattle.bmp_writer.proofs.Tlvs.{initiation_written, told_written}
use Rattle.bmp_writer.proofs.initiation.put_in.Goals as goal

pub returns-clause-ok : goal.returns-clause-ok
returns-clause-ok g c =
    let (one, first, is) = c.put_tlv-at.ensures.front in
    let (two, second, is_too) = c.put_tlv-at-2.ensures.front in
    let head = c.put-at.ensures.front ∙ c.common_header.ensures in
    let joined = second ∙ ap (λ (l : List ℕ). l ++ two) (first ∙ ap (λ (l : List ℕ). l ++ one) head) in
    let written = initiation_written c.args.name.now c.args.descr.now one two _ _ is is_too joined (omega arith) c.requires.descr c.requires.name in
    on_ok_weaker c.extend.result (λ e. (_, e, written)) c.extend.ensures.ok

pub returns-clause-tlvs : goal.returns-clause-tlvs
returns-clause-tlvs g c =
    let (one, first, is) = c.put_tlv-at.ensures.front in
    let (two, second, is_too) = c.put_tlv-at-2.ensures.front in
    let head = c.put-at.ensures.front ∙ c.common_header.ensures in
    let joined = second ∙ ap (λ (l : List ℕ). l ++ two) (first ∙ ap (λ (l : List ℕ). l ++ one) head) in
    on_ok_weaker c.extend.result (λ e. (_, e, told_written c.args.name.now c.args.descr.now one two _ _ is is_too joined)) c.extend.ensures.ok

pub returns-clause-bytes : goal.returns-clause-bytes
returns-clause-bytes g c =
    let (one, first, is) = c.put_tlv-at.ensures.front in
    let (two, second, is_too) = c.put_tlv-at-2.ensures.front in
    let head = c.put-at.ensures.front ∙ c.common_header.ensures in
    let joined = second ∙ ap (λ (l : List ℕ). l ++ two) (first ∙ ap (λ (l : List ℕ). l ++ one) head) in
    let written = initiation_written c.args.name.now c.args.descr.now one two _ _ is is_too joined (omega arith) c.requires.descr c.requires.name in
    let told = told_written c.args.name.now c.args.descr.now one two _ _ is is_too joined in
    on_ok_weaker c.extend.result (λ e. (_, e, record { body = written.body; is = written.is; told = told })) c.extend.ensures.ok
