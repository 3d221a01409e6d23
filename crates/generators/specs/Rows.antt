-- Inner promises: the stored generators, in words of 64 bits, the lowest first, as `scripts/generators.py lists` prints them. That each row is
-- the generator of its level is tested in proofs/Stored.
--
-- thirteen, fourteen    the generators of the levels 0, 2, .., 62 for m = 13 and for m = 14
-- rows f                those of a field
use Rattle.std.specs.Prelude.{List, [], ◌∷◌, ℕ}
use Rattle.field.specs.declared.Field.{Field}
use Rattle.field.specs.declared.Field.TheVariants.{Thirteen, Fourteen}

abbrev pub thirteen : List (List ℕ)
thirteen =
    (1 ∷ 0 ∷ 0 ∷ 0 ∷ 0 ∷ 0 ∷ 0 ∷ 0 ∷ 0 ∷ 0 ∷ 0 ∷ 0 ∷ 0 ∷ 0 ∷ [])
    ∷ (0x4d5154b ∷ 0 ∷ 0 ∷ 0 ∷ 0 ∷ 0 ∷ 0 ∷ 0 ∷ 0 ∷ 0 ∷ 0 ∷ 0 ∷ 0 ∷ 0 ∷ [])
    ∷ (0x14523043ab86ab ∷ 0 ∷ 0 ∷ 0 ∷ 0 ∷ 0 ∷ 0 ∷ 0 ∷ 0 ∷ 0 ∷ 0 ∷ 0 ∷ 0 ∷ 0 ∷ [])
    ∷ (0xc930e4f0dcb9b17d ∷ 0x7f3c ∷ 0 ∷ 0 ∷ 0 ∷ 0 ∷ 0 ∷ 0 ∷ 0 ∷ 0 ∷ 0 ∷ 0 ∷ 0 ∷ 0 ∷ [])
    ∷ (0xc138741c5c4fb23 ∷ 0x115f914e07b ∷ 0 ∷ 0 ∷ 0 ∷ 0 ∷ 0 ∷ 0 ∷ 0 ∷ 0 ∷ 0 ∷ 0 ∷ 0 ∷ 0 ∷ [])
    ∷ (0xde0ab0157e0b37c9 ∷ 0x5a4ef0d287c9a24e ∷ 6 ∷ 0 ∷ 0 ∷ 0 ∷ 0 ∷ 0 ∷ 0 ∷ 0 ∷ 0 ∷ 0 ∷ 0 ∷ 0 ∷ [])
    ∷ (0x4c6e6d7e1205e051 ∷ 0x6115a56784a6940a ∷ 0x1e487325 ∷ 0 ∷ 0 ∷ 0 ∷ 0 ∷ 0 ∷ 0 ∷ 0 ∷ 0 ∷ 0 ∷ 0 ∷ 0 ∷ [])
    ∷ (0x1583d46221885329 ∷ 0xa660537c15695aea ∷ 0x6bbbe749962881 ∷ 0 ∷ 0 ∷ 0 ∷ 0 ∷ 0 ∷ 0 ∷ 0 ∷ 0 ∷ 0 ∷ 0 ∷ 0 ∷ [])
    ∷ (0xb378a601cdd0fdd1 ∷ 0xff07f7aa45ff026f ∷ 0x3f0dbec563b5fb20 ∷ 0x1cbbe ∷ 0 ∷ 0 ∷ 0 ∷ 0 ∷ 0 ∷ 0 ∷ 0 ∷ 0 ∷ 0 ∷ 0 ∷ [])
    ∷ (0x6045a4921a0e7e79 ∷ 0xe86d2b647121ef74 ∷ 0x9130bdf8cc65d5ac ∷ 0x4ca0bb05d75 ∷ 0 ∷ 0 ∷ 0 ∷ 0 ∷ 0 ∷ 0 ∷ 0 ∷ 0 ∷ 0 ∷ 0 ∷ [])
    ∷ (0x8f19952a36fe2eff ∷ 0xb1bbc21d4d721e0 ∷ 0xe5ed9dd81055d4b5 ∷ 0xa6256adef360ae89 ∷ 0x19 ∷ 0 ∷ 0 ∷ 0 ∷ 0 ∷ 0 ∷ 0 ∷ 0 ∷ 0 ∷ 0 ∷ [])
    ∷ (0x81a93697624381a7 ∷ 0x1894a3f0ebcc4a38 ∷ 0xfbc6e6355a8900a8 ∷ 0x36a6618dea18130e ∷ 0x543737dc ∷ 0 ∷ 0 ∷ 0 ∷ 0 ∷ 0 ∷ 0 ∷ 0 ∷ 0 ∷ 0 ∷ [])
    ∷ (0x2e2f24776764d40b ∷ 0x6535314720e6069c ∷ 0xa890fd92eb275b44 ∷ 0x4d98695423aa5472 ∷ 0x130af2c15bfbf4f ∷ 0 ∷ 0 ∷ 0 ∷ 0 ∷ 0 ∷ 0 ∷ 0 ∷ 0 ∷ 0 ∷ [])
    ∷ (0xd2e00c98af405749 ∷ 0xfe970642de20676c ∷ 0x703e96050c7b566b ∷ 0x5357db7c19eb1a94 ∷ 0xc838b6906f034699 ∷ 0x66622 ∷ 0 ∷ 0 ∷ 0 ∷ 0 ∷ 0 ∷ 0 ∷ 0 ∷ 0 ∷ [])
    ∷ (0xebd57763425a5aa3 ∷ 0x5c5386132d4f11e7 ∷ 0x913bd16b7f4fd1b6 ∷ 0x440162fb31231b54 ∷ 0x595166cf6d0ad95b ∷ 0x1bb4b458a849 ∷ 0 ∷ 0 ∷ 0 ∷ 0 ∷ 0 ∷ 0 ∷ 0 ∷ 0 ∷ [])
    ∷ (0xffb1f94549b53c1 ∷ 0x4d59537343515a8f ∷ 0x5608a1108325ed09 ∷ 0xf5d124c02eb8a4f5 ∷ 0x80fa2228c873a08c ∷ 0x48f627cdd743c713 ∷ 0x7a ∷ 0 ∷ 0 ∷ 0 ∷ 0 ∷ 0 ∷ 0 ∷ 0 ∷ [])
    ∷ (0xd7158d53137a4003 ∷ 0x4b8991aa3e81e284 ∷ 0x76283cdaca2ebdf ∷ 0x66321b27dc3d3fbd ∷ 0x96b161398875fef1 ∷ 0x40770c0427b4a2af ∷ 0x1dece3341 ∷ 0 ∷ 0 ∷ 0 ∷ 0 ∷ 0 ∷ 0 ∷ 0 ∷ [])
    ∷ (0x6aac457cc854236b ∷ 0x668c862340696a4 ∷ 0xb84be98f08478684 ∷ 0xaac3fa538be86c81 ∷ 0xb17edbea35db7cbf ∷ 0x6d50a86e525e6886 ∷ 0x69bb8d00713e094 ∷ 0 ∷ 0 ∷ 0 ∷ 0 ∷ 0 ∷ 0 ∷ 0 ∷ [])
    ∷ (0x820014097825f031 ∷ 0xc29796ebdd3a0314 ∷ 0xdae8192e0a20ba10 ∷ 0xf954838f8d350315 ∷ 0x6755490b2175666f ∷ 0xee807cb9335a749 ∷ 0xd87137fdccd7ee2e ∷ 0x181c5f ∷ 0 ∷ 0 ∷ 0 ∷ 0 ∷ 0 ∷ 0 ∷ [])
    ∷ (0xc149157512352873 ∷ 0xa47b3c3b1de1dedb ∷ 0x14b9d4b5cf7c27e7 ∷ 0x118a16e042c2c44c ∷ 0xcd479daba6dd050c ∷ 0xe753d3bc830f548e ∷ 0x2982e4bd9ce9c30e ∷ 0x73ac9a8473f4 ∷ 0 ∷ 0 ∷ 0 ∷ 0 ∷ 0 ∷ 0 ∷ [])
    ∷ (0xca79fbfdb306a0a7 ∷ 0x232007992dbf4bb4 ∷ 0x19cc3924f5af091 ∷ 0xc970f5b63c79c472 ∷ 0x7265caa76c8a435 ∷ 0xcb84a09959b8b85c ∷ 0x63af56c9c11a5d ∷ 0x1560347538fba045 ∷ 0x1f6 ∷ 0 ∷ 0 ∷ 0 ∷ 0 ∷ 0 ∷ [])
    ∷ (0xdf6e78ce7c2d66c1 ∷ 0xe8fbd871326dffe4 ∷ 0x7778fb38ce9803 ∷ 0x7c12134492f5a83c ∷ 0x3ddca5d9f8520037 ∷ 0x40eb81d6654b3757 ∷ 0x6438e6e9842ae3af ∷ 0xfc357262b6ccc807 ∷ 0x6c43f0f82 ∷ 0 ∷ 0 ∷ 0 ∷ 0 ∷ 0 ∷ [])
    ∷ (0x6deb43e0d5c6a7e7 ∷ 0x172a2c880496c032 ∷ 0x6d6ed916cedf1f49 ∷ 0xa856e5cc4435e2c1 ∷ 0x9e40ac81be4caa8f ∷ 0x9dcbc89b4ebda494 ∷ 0xc99c0af4d2bcb12e ∷ 0x764b394a6bace754 ∷ 0x1396fe24d7eabdcc ∷ 0 ∷ 0 ∷ 0 ∷ 0 ∷ 0 ∷ [])
    ∷ (0x6972e5c84adc3acd ∷ 0x820fb9d369caf4bd ∷ 0x23698e3d8bbe0095 ∷ 0x3c3b5b791c919270 ∷ 0x91298a389b9421cc ∷ 0x72bbb846abb88979 ∷ 0x4bbdc6a787365458 ∷ 0x3e748d2189d3b652 ∷ 0x992929118e8c2514 ∷ 0x79b563 ∷ 0 ∷ 0 ∷ 0 ∷ 0 ∷ [])
    ∷ (0xbcb000afd274cb35 ∷ 0xdd3774e36cd974 ∷ 0x12ba881bae04a0f ∷ 0x7bedac01abb1a964 ∷ 0x6b3b534f8d38df2c ∷ 0x22703ba7f17f495b ∷ 0x9a97351d6ce3f5bf ∷ 0x574547d38a05a5b0 ∷ 0xd1acc4d7292a3fc2 ∷ 0x1223d3fc2e5f3 ∷ 0 ∷ 0 ∷ 0 ∷ 0 ∷ [])
    ∷ (0xe031fff5a2a1ca29 ∷ 0xee1479606422793f ∷ 0x5319ea25646d1436 ∷ 0x33569cd78c1f612f ∷ 0x84835bf89063a55 ∷ 0xe862b92f09af28aa ∷ 0xb600f0793ccc9d2b ∷ 0x6dddd09e8848609b ∷ 0xcf2ff0763ed587ba ∷ 0x4ff369c3fc8f0989 ∷ 0x77d ∷ 0 ∷ 0 ∷ 0 ∷ [])
    ∷ (0x961d67f82e0a2ac3 ∷ 0xa299d313181ec104 ∷ 0x131788c527d3c257 ∷ 0x13c44a6d7f3fc87c ∷ 0xbdd47c6c4d28fa99 ∷ 0xc83242f7d6ee1e16 ∷ 0xfe8e776084f24d3 ∷ 0x8591fa89bc4f066a ∷ 0xe19e1b7278873716 ∷ 0x2bc8679bc9b6a550 ∷ 0x16fc88bc22 ∷ 0 ∷ 0 ∷ 0 ∷ [])
    ∷ (0xca0cd6b21cab25d5 ∷ 0xabed643186332900 ∷ 0x9b123d7762de67d5 ∷ 0xcd59919d85cccc54 ∷ 0xf352bfe0ca21a1b9 ∷ 0x8f837fe439069664 ∷ 0x86a1f32bf8349bcb ∷ 0x486aeaa94ee62dce ∷ 0xf9c2639c130046a6 ∷ 0x77fe8b73898fa808 ∷ 0x4c1c8b9994c867a8 ∷ 0 ∷ 0 ∷ 0 ∷ [])
    ∷ (0x235f931e417bb215 ∷ 0x9979d9ae77625fcd ∷ 0xd251d1c89e6b59a8 ∷ 0x97e8f5015c180e90 ∷ 0xfbe6accaebf084df ∷ 0x3dbd6170532ccc7e ∷ 0xcf39472434cfed16 ∷ 0x5cb82a3311d73d58 ∷ 0xb9633c49256716d9 ∷ 0xac932d379535c91 ∷ 0x93300ce94f2589d6 ∷ 0x10c272b ∷ 0 ∷ 0 ∷ [])
    ∷ (0x518af0d906cfee5d ∷ 0xb457bd540f670fc4 ∷ 0x722e41a078b19d6b ∷ 0xc9d28656adf79c64 ∷ 0xefa2c3d21c7e6690 ∷ 0x29213ea325674e4d ∷ 0xdafff72d676cac0 ∷ 0xa1de8b5027e773fb ∷ 0x90fbc6e3b0ee3aa5 ∷ 0x45c7b1f7fb126ea6 ∷ 0x78f56fd97d2cf5ea ∷ 0x497e80f58821e ∷ 0 ∷ 0 ∷ [])
    ∷ (0x10953571fd25894d ∷ 0x71b2193c0c63149a ∷ 0x26c05c8c11f62d41 ∷ 0xf2e59bd9a6444217 ∷ 0xecdc616aeb386184 ∷ 0x87e018c16639569e ∷ 0xd92cd32e776cc4bb ∷ 0x57008510990d474a ∷ 0x20fede43a3ba14e8 ∷ 0x1c8e1d2341cce7ea ∷ 0xe00902917f0663b3 ∷ 0xf80b5e3aa426e801 ∷ 0x1063 ∷ 0 ∷ [])
    ∷ (0x11b4f467f7c912ad ∷ 0x1b161abc0141186a ∷ 0x2e434bbaa62e2aa2 ∷ 0xbafa87bf72d64c69 ∷ 0xc8733adefa322920 ∷ 0xf8740f30f1cfbed6 ∷ 0x189b98c4b2a21571 ∷ 0xcda5c9ae79209097 ∷ 0x929c97d2af9759f3 ∷ 0x41b80432ad51947c ∷ 0x8ff5e82e8b0acf19 ∷ 0xb4d2e8ec713fcf87 ∷ 0x769161c861 ∷ 0 ∷ [])
    ∷ []

abbrev pub fourteen : List (List ℕ)
fourteen =
    (1 ∷ 0 ∷ 0 ∷ 0 ∷ 0 ∷ 0 ∷ 0 ∷ 0 ∷ 0 ∷ 0 ∷ 0 ∷ 0 ∷ 0 ∷ 0 ∷ [])
    ∷ (0x125bf9eb ∷ 0 ∷ 0 ∷ 0 ∷ 0 ∷ 0 ∷ 0 ∷ 0 ∷ 0 ∷ 0 ∷ 0 ∷ 0 ∷ 0 ∷ 0 ∷ [])
    ∷ (0x1653b2211ae15c1 ∷ 0 ∷ 0 ∷ 0 ∷ 0 ∷ 0 ∷ 0 ∷ 0 ∷ 0 ∷ 0 ∷ 0 ∷ 0 ∷ 0 ∷ 0 ∷ [])
    ∷ (0x909a5262c843fcbd ∷ 0x1057c4 ∷ 0 ∷ 0 ∷ 0 ∷ 0 ∷ 0 ∷ 0 ∷ 0 ∷ 0 ∷ 0 ∷ 0 ∷ 0 ∷ 0 ∷ [])
    ∷ (0xeda463552df84609 ∷ 0x192d612e23675 ∷ 0 ∷ 0 ∷ 0 ∷ 0 ∷ 0 ∷ 0 ∷ 0 ∷ 0 ∷ 0 ∷ 0 ∷ 0 ∷ 0 ∷ [])
    ∷ (0xd64bda7f7b65cc0f ∷ 0xd25eb862e4274cbb ∷ 0x1dbf ∷ 0 ∷ 0 ∷ 0 ∷ 0 ∷ 0 ∷ 0 ∷ 0 ∷ 0 ∷ 0 ∷ 0 ∷ 0 ∷ [])
    ∷ (0x528fe7d7d11905a5 ∷ 0x69b262cd23a39069 ∷ 0x14062dbea98 ∷ 0 ∷ 0 ∷ 0 ∷ 0 ∷ 0 ∷ 0 ∷ 0 ∷ 0 ∷ 0 ∷ 0 ∷ 0 ∷ [])
    ∷ (0x822700c7008607fb ∷ 0x48b101d34989850f ∷ 0x16115bc270dde99a ∷ 0x1a ∷ 0 ∷ 0 ∷ 0 ∷ 0 ∷ 0 ∷ 0 ∷ 0 ∷ 0 ∷ 0 ∷ 0 ∷ [])
    ∷ (0x4ddef681c94db411 ∷ 0xbd3e8f407385c3f ∷ 0x14a4c377fc816ca0 ∷ 0x122f17556 ∷ 0 ∷ 0 ∷ 0 ∷ 0 ∷ 0 ∷ 0 ∷ 0 ∷ 0 ∷ 0 ∷ 0 ∷ [])
    ∷ (0x230dd45006c2f2db ∷ 0xb5d0f52d3a106833 ∷ 0xeabe7cbe946c122d ∷ 0x1b86700b33d15040 ∷ 0 ∷ 0 ∷ 0 ∷ 0 ∷ 0 ∷ 0 ∷ 0 ∷ 0 ∷ 0 ∷ 0 ∷ [])
    ∷ (0x9e392e802b8b8e89 ∷ 0x264ad346b8062c3a ∷ 0xa8c2eb382110a7f ∷ 0xf237abd1ec9f1766 ∷ 0x1ece913 ∷ 0 ∷ 0 ∷ 0 ∷ 0 ∷ 0 ∷ 0 ∷ 0 ∷ 0 ∷ 0 ∷ [])
    ∷ (0x78071d175295c3b5 ∷ 0xcaae3b660352133f ∷ 0xe97d01ca73ce6724 ∷ 0x37703ecf4e744896 ∷ 0x10a3cc265429f3 ∷ 0 ∷ 0 ∷ 0 ∷ 0 ∷ 0 ∷ 0 ∷ 0 ∷ 0 ∷ 0 ∷ [])
    ∷ (0xd15bc6a7c9b77335 ∷ 0xa093b02f2d55d96e ∷ 0xd577022ad7445271 ∷ 0x223b589a80e6c5c6 ∷ 0x2cb97d4fb3767acf ∷ 0x18213 ∷ 0 ∷ 0 ∷ 0 ∷ 0 ∷ 0 ∷ 0 ∷ 0 ∷ 0 ∷ [])
    ∷ (0x3aca1aee3881b701 ∷ 0x89afa3b44c346ca ∷ 0x5ca2cda56bd5d97 ∷ 0xff2206cdcd952cae ∷ 0xf517d8fd5c61c403 ∷ 0x1201f259b60e ∷ 0 ∷ 0 ∷ 0 ∷ 0 ∷ 0 ∷ 0 ∷ 0 ∷ 0 ∷ [])
    ∷ (0x496c127c384d4d23 ∷ 0xd4d039d055281f21 ∷ 0x1285284f4163dee3 ∷ 0x1254a9b7ce0ea724 ∷ 0x4c7a404c810e1953 ∷ 0xaa8fdffa14b2a7bc ∷ 0x1ff ∷ 0 ∷ 0 ∷ 0 ∷ 0 ∷ 0 ∷ 0 ∷ 0 ∷ [])
    ∷ (0x985f3727cfdb8c3d ∷ 0x8df8e960a84c2099 ∷ 0x5535c874b23839e5 ∷ 0x758674bf82717f ∷ 0x9ecb330e7b36d354 ∷ 0xeaf807b026532020 ∷ 0x1bdb8971bb ∷ 0 ∷ 0 ∷ 0 ∷ 0 ∷ 0 ∷ 0 ∷ 0 ∷ [])
    ∷ (0xc706b65e9f85d5b1 ∷ 0xcbc58ae41e7c7355 ∷ 0x2f91cb5278cdc79f ∷ 0x36ddb015f2ddcb74 ∷ 0xb1b49d2bbaf0539e ∷ 0x7dab553ca21cb3d6 ∷ 0xd02ab0d2d756ad2 ∷ 1 ∷ 0 ∷ 0 ∷ 0 ∷ 0 ∷ 0 ∷ 0 ∷ [])
    ∷ (0x47edc4334c4fb91f ∷ 0x244a3fff3793a244 ∷ 0x6854e1cce10e5bf6 ∷ 0x16233a0ae64ea948 ∷ 0xb2c7a3dd9d6ed2b9 ∷ 0xfb22a3732de719f4 ∷ 0x434fa15f1c529d37 ∷ 0x19215324 ∷ 0 ∷ 0 ∷ 0 ∷ 0 ∷ 0 ∷ 0 ∷ [])
    ∷ (0x88f3b01a6c5f3577 ∷ 0xfdfdb49c1aeb5557 ∷ 0x86c4fe2c930bb778 ∷ 0x62fc37430615dced ∷ 0x4d1f2c10d0885558 ∷ 0xb3f59b9b7163b86b ∷ 0xc5de34a071671a4 ∷ 0x16840e474dd071d ∷ 0 ∷ 0 ∷ 0 ∷ 0 ∷ 0 ∷ 0 ∷ [])
    ∷ (0xbdadcbb36345de7f ∷ 0x631d44355dabc4f9 ∷ 0x4554329bc9d6a6a6 ∷ 0xccd22620d8b71549 ∷ 0x8469ff73a18af4b4 ∷ 0x9e1e7b74edae866b ∷ 0x232684cc2f79b28e ∷ 0x2f273893ad7b20d7 ∷ 0x12e15c ∷ 0 ∷ 0 ∷ 0 ∷ 0 ∷ 0 ∷ [])
    ∷ (0xbb6615f70f93c2ad ∷ 0x54099d334cdce16f ∷ 0xdcf24b78b0f0da6e ∷ 0xabc1461aa843f5bf ∷ 0xb46e32cdec71631c ∷ 0x159acd08497e925b ∷ 0x297060b80bb1a648 ∷ 0xae3772eec093a09e ∷ 0x1264159c33565 ∷ 0 ∷ 0 ∷ 0 ∷ 0 ∷ 0 ∷ [])
    ∷ (0x80542f2a017fc831 ∷ 0xf7343ba78d610f19 ∷ 0x1a9b05fc66af3c1a ∷ 0x10541c1a7342c1d0 ∷ 0x70196b60f6f1bec7 ∷ 0xa5077fbff1360af0 ∷ 0x84c8c92988c2fa8e ∷ 0xd7d520eb857566c ∷ 0x291441f53dd509d4 ∷ 0x1b42 ∷ 0 ∷ 0 ∷ 0 ∷ 0 ∷ [])
    ∷ (0x9f89244f42d42a1d ∷ 0x6ec85d6e5be544aa ∷ 0x121d492a78a5ec93 ∷ 0x5c50a83cc4a943bb ∷ 0x3228a1f20134b221 ∷ 0x2b1fbed23b710d3a ∷ 0xad7a54b5ab131b72 ∷ 0xa7cbfeb34e02e7e6 ∷ 0x9176bfcb69be586c ∷ 0x1fe87b1920f ∷ 0 ∷ 0 ∷ 0 ∷ 0 ∷ [])
    ∷ (0xcdcc17a8880150b1 ∷ 0x12aee578dfc7befb ∷ 0x91f81a615ec37dda ∷ 0x60c426d8b15c128a ∷ 0xe709b736fcfb64c8 ∷ 0xb8e4a8cf762ccc3a ∷ 0xccc14a5aa2c27c33 ∷ 0x8594bfcc0f8d6261 ∷ 0xefdbe2e79bdfc72b ∷ 0x6ef21827b9bf749 ∷ 0x11 ∷ 0 ∷ 0 ∷ 0 ∷ [])
    ∷ (0x97c1fc4c7664fbf3 ∷ 0x2683378170bb98a1 ∷ 0xa1cf17b9abf50210 ∷ 0x1873cd5342d4ac9d ∷ 0x56b22c8fea92523f ∷ 0x723b6fa8b1192e2 ∷ 0x2ce9ac1984ece50f ∷ 0xde832af76b547d1f ∷ 0xad7cda01b9dccff1 ∷ 0xddbf58b9a52ae62e ∷ 0x115e792e2 ∷ 0 ∷ 0 ∷ 0 ∷ [])
    ∷ (0x7bd72ef8e4ad24f3 ∷ 0x29340b50c0b307ab ∷ 0x535ea7b138cead72 ∷ 0x7dcc51da30c6cf3b ∷ 0x56bd3cf4bd46a5f2 ∷ 0xba905effada305cf ∷ 0x11d7c3f51e50d311 ∷ 0x590552381ba7a70e ∷ 0x31750f77bc005473 ∷ 0xa2c7636a38566075 ∷ 0x12b85490d4145c4f ∷ 0 ∷ 0 ∷ 0 ∷ [])
    ∷ (0x6152754f025dac57 ∷ 0xf968fc11333a0b63 ∷ 0x77f80c870ced04ad ∷ 0x3748c9135eb6f7ef ∷ 0x8044adb07cd85a96 ∷ 0x14fdfd32d466a3a0 ∷ 0x1185f5b12a570658 ∷ 0x112069a57f85f403 ∷ 0xc4605b1c1445cd68 ∷ 0x3e8b355142362df2 ∷ 0xf3b9635839734251 ∷ 0x18b53e4 ∷ 0 ∷ 0 ∷ [])
    ∷ (0xcd5a8aa18af97d5d ∷ 0x8c72c9d869efa79c ∷ 0x90d88d54a848498f ∷ 0xc059cdc8f487a212 ∷ 0xf5dddf517b0f17fe ∷ 0x515eb3a63a1fea18 ∷ 0x82acd03a791cf1f3 ∷ 0xa8890182e9eed9be ∷ 0xba80e120fa486317 ∷ 0xae1770b61fa28e13 ∷ 0xcae71ec33bf064c4 ∷ 0x1b68386e1a5311 ∷ 0 ∷ 0 ∷ [])
    ∷ (0x574f45432c6c8c51 ∷ 0xc859dffec69efcda ∷ 0x4e40d30c2b625e7 ∷ 0x5aa9f3fe35def262 ∷ 0x70a522aee991a8de ∷ 0x9e58c95c113221e5 ∷ 0x591dd372ba7ffe5c ∷ 0xe433f2e89c9d3f7a ∷ 0x7fc866e660b8358c ∷ 0xc06472bbcb54428c ∷ 0xd0a992e5e1ac2f7b ∷ 0x7b974a96c8c5220a ∷ 0x1ce2b ∷ 0 ∷ [])
    ∷ (0x9b32279c8505099d ∷ 0xed00a88c26962eb4 ∷ 0x53df51270ec4d20e ∷ 0xc5f2ee7dd4375b06 ∷ 0x8e742377593deb77 ∷ 0x842c09c7d51ad32d ∷ 0xe051bfc6d2d20ed4 ∷ 0xcb8c3f20362dd7d9 ∷ 0xc1b3fbba03d9561b ∷ 0x2a2508fdbd3d430e ∷ 0xab2b9ac14e648cf0 ∷ 0x35e2707f6e30e3bc ∷ 0x1987f920937e ∷ 0 ∷ [])
    ∷ (0xfc012bac33d2c0ef ∷ 0xf7bce20face58679 ∷ 0x97af6a03cd7b36b7 ∷ 0x3cf2674b04299706 ∷ 0xfd2ce0c7007807cb ∷ 0x4b137c2f76a475c4 ∷ 0xeb088c133b8aea81 ∷ 0x78de5273d4eae5b6 ∷ 0x4d9f274b5104ce18 ∷ 0x1f306c853e44d2e3 ∷ 0xc232b564b2a86d3 ∷ 0xbbd595bb0d162724 ∷ 0x97dc4888cf47a59c ∷ 0x177 ∷ [])
    ∷ (0xb4b2e249406467a3 ∷ 0x22e71c33b52ef429 ∷ 0x2f59a63aeb71e2ce ∷ 0xa80409531e92cc5d ∷ 0x70cadb4ae0fa4195 ∷ 0x311b25bfd45aeae5 ∷ 0xdf0deb023beb3623 ∷ 0x65d6364f3b84613a ∷ 0xae1d5eea09b64538 ∷ 0x5355fb044b167298 ∷ 0x195552c8fb2dcd07 ∷ 0x5d7f1ac0a715819c ∷ 0x425a9e3c123750d5 ∷ 0x14193c9c83 ∷ [])
    ∷ []

abbrev pub rows : Field → List (List ℕ)
rows Thirteen = thirteen
rows Fourteen = fourteen
